-- The limits by their numbers.
use Rattle.std.specs.Prelude.{◌≡◌}
use Rattle.flux_values.specs.declared.texts.TheConstants.{TEXT_LIMIT, EMISSION_LIMIT}
use Rattle.flux_faults.specs.declared.places.TheConstants.{PLACE_LIMIT}
use Rattle.flux_model.specs.declared.programs.TheConstants.{COUNT_LIMIT}
use Rattle.flux_lexer.specs.declared.reading.TheConstants.{PROGRAM_LIMIT}
use Rattle.flux_library.specs.declared.documents.TheConstants.{BODY_LIMIT}
use Rattle.flux_items.specs.declared.rules.TheConstants.{ITEM_LIMIT, SIZE_LIMIT}
use Rattle.flux_docs.specs.declared.reading.TheConstants.{DOC_LIMIT, BODIES_LIMIT}
use Rattle.flux_doors.specs.declared.doors.TheConstants.{OUT_LIMIT}
use Rattle.flux_cli.specs.declared.values.TheConstants.{DIGIT_LIMIT, NUMBER_LIMIT, WORKER_LIMIT}
use Rattle.flux_cli.specs.declared.values.TheConstants.{PORT_LIMIT, BATCHES_LIMIT}
use Rattle.flux_cli.specs.declared.loads.TheConstants.{LOAD_LIMIT, FIRST_LIMIT}
use Rattle.flux_cli.specs.declared.costs.TheConstants.{PROCESSOR_LIMIT, COST_LIMIT, COSTS_LIMIT}
use Rattle.flux_commands.specs.declared.files.TheConstants.{PROGRAM_FILE_LIMIT, ITEMS_FILE_LIMIT}
use Rattle.flux_commands.specs.declared.files.TheConstants.{JOURNAL_FILE_LIMIT}
use Rattle.nodes_cache.specs.declared.entries.TheConstants.{NAME_LIMIT, ENTRY_LIMIT}
use Rattle.nodes_tracker.specs.declared.peers.TheConstants.{PEER_LIMIT}
use Rattle.nodes_tracker.specs.declared.replies.TheConstants.{SHOWN_LIMIT}
use Rattle.nodes_web.specs.declared.requests.TheConstants.{FIELD_LIMIT}
use Rattle.bencoding.specs.declared.values.TheConstants.{DEPTH_LIMIT, STRING_LIMIT}

-- bytes of files, and of the text of a program
pub record AreFileLimits : Type 0 where
  pub program_file : PROGRAM_FILE_LIMIT ≡ 2097152
  pub program_text : PROGRAM_LIMIT ≡ 1048576
  pub items_file : ITEMS_FILE_LIMIT ≡ 16777216
  pub journal_file : JOURNAL_FILE_LIMIT ≡ 268435456

-- documents, the bytes of one body, and those of all bodies
pub record AreDocumentLimits : Type 0 where
  pub body : BODY_LIMIT ≡ 1048576
  pub documents : DOC_LIMIT ≡ 4096
  pub bodies : BODIES_LIMIT ≡ 67108864

-- bytes of a text value and of what a node sends; items, and the sum of the sizes of their sources;
-- things of a kind in a program; lines and columns of a place
pub record AreValueLimits : Type 0 where
  pub text : TEXT_LIMIT ≡ 65536
  pub emission : EMISSION_LIMIT ≡ 1049600
  pub items : ITEM_LIMIT ≡ 4096
  pub sizes : SIZE_LIMIT ≡ 4194304
  pub counted : COUNT_LIMIT ≡ 1048576
  pub place : PLACE_LIMIT ≡ 4294967295

-- in the words of a command: digits of a number, the highest number of a flow, the most workers of
-- a pool, the most items of a load and the highest number that they may be made from, the highest
-- port, the most batches, the most processors of a simulation, what a call costs at most, and the
-- most costs
pub record AreWordLimits : Type 0 where
  pub digits : DIGIT_LIMIT ≡ 10
  pub flow : NUMBER_LIMIT ≡ 4095
  pub workers : WORKER_LIMIT ≡ 16
  pub load : LOAD_LIMIT ≡ 4096
  pub first : FIRST_LIMIT ≡ 4294967295
  pub port : PORT_LIMIT ≡ 65535
  pub batches : BATCHES_LIMIT ≡ 4294967295
  pub processors : PROCESSOR_LIMIT ≡ 64
  pub cost : COST_LIMIT ≡ 1000
  pub costs : COSTS_LIMIT ≡ 4096

-- in nodes: bytes of a cached name, entries of a cache, fields of a request's head, peers of a
-- swarm, and those of them that an answer shows
pub record AreNodeLimits : Type 0 where
  pub name : NAME_LIMIT ≡ 1024
  pub entries : ENTRY_LIMIT ≡ 8
  pub fields : FIELD_LIMIT ≡ 64
  pub peers : PEER_LIMIT ≡ 1000
  pub shown : SHOWN_LIMIT ≡ 50

-- in bencoded values: lists and dictionaries within each other, and bytes of a string
pub record AreBencodingLimits : Type 0 where
  pub deepest : DEPTH_LIMIT ≡ 8
  pub longest : STRING_LIMIT ≡ 65536

-- at a door: links that are out
pub record AreDoorLimits : Type 0 where
  pub out : OUT_LIMIT ≡ 4096
