-- Small links, journals and programs, which the examples are about.
use Rattle.std.specs.Prelude.{ℕ, false, List, [], ◌∷◌, Some, None, codes}
use Rattle.flux_values.specs.declared.answers.CallResult.TheVariants as results
use Rattle.flux_values.specs.declared.meanings.Role.{Role}
use Rattle.flux_values.specs.declared.meanings.Sig.{Sig}
use Rattle.flux_values.specs.Meanings.{LibraryMeaning}
use Rattle.flux_model.specs.declared.programs.NodeNo.{NodeNo}
use Rattle.flux_model.specs.declared.programs.Body.TheVariants.{Concrete}
use Rattle.flux_model.specs.declared.programs.Program.{Program}
use Rattle.flux_model.specs.declared.programs.SourceLine.{SourceLine}
use Rattle.flow_model.specs.declared.journals.Entry.{Entry}
use Rattle.flow_model.specs.declared.journals.Event.TheVariants.{Call}
use Rattle.flux_batches.specs.declared.reading.Sent.{Sent}
use Rattle.flux_batches.specs.declared.reading.ReadLink.{ReadLink}
use Rattle.flux_doors.specs.Seen.{SeenLink}
use Rattle.flux_serve.specs.Ends.{Sight}

-- ---- links, by what is seen of them

-- a link whose client sends some bytes, with bytes left to read, those left before its last read,
-- bytes written, and a count of faults
abbrev pub link_of : List ℕ → List ℕ → List ℕ → List ℕ → ℕ → SeenLink
link_of had left left_before written faults = record {
  had = Some had;
  left = Some left;
  left_before = Some left_before;
  stream = record { written = Some written; faults = faults };
}

-- one of which nothing was read yet
abbrev pub link : List ℕ → List ℕ → ℕ → SeenLink
link left written faults = link_of left left left written faults

-- one that was read whole by one read and hasn't failed, with bytes written
abbrev pub told : List ℕ → List ℕ → SeenLink
told had written = link_of had [] had written 0

-- what is seen of it is the link itself
abbrev pub itself : SeenLink → SeenLink
itself link = link

-- a link that was read, with what it sent
abbrev pub read : SeenLink → Sent → ReadLink SeenLink
read link sent = record { link = link; sent = sent }

-- ---- journals

-- a node's number
abbrev pub no : ℕ → NodeNo
no n = record { 0 = n }

-- a call of a flow that emits some bytes
abbrev pub says : ℕ → List ℕ → Entry
says flow bytes = record {
  flow = record { 0 = flow };
  event = Call (record {
    node = no 0;
    args = [];
    answer = record { result = results.Good []; puts = []; emits = bytes };
  });
}

-- two flows: the first emits `a` and `c`, and the second `b` between these
abbrev pub spoken : List Entry
spoken = says 0 (codes "a") ∷ says 1 (codes "b") ∷ says 0 (codes "c") ∷ []

-- two flows, each of which emits one byte
abbrev pub echoed : List Entry
echoed = says 0 (codes "p") ∷ says 1 (codes "q") ∷ []

-- ---- programs

-- the signature of a node with a role
abbrev pub sig_with : Role → Sig
sig_with role = record { ins = []; outs = []; cells = []; role = role }

-- a library whose nodes all have a role
abbrev pub with_role : Role → LibraryMeaning
with_role role = record {
  kind = λ ty. None;
  node = λ name. Some (sig_with role);
  predicate = λ name. None;
  session = λ name. None;
  call = λ name args cells. record { result = results.Good []; puts = []; emits = [] };
  test = λ name value. false;
  id = λ name args. 0;
}

-- a source whose flows go on at the one node
abbrev pub line : SourceLine
line = record { node = no 0; target = no 0; session = None }

-- a program of one node, with some sources
abbrev pub sources_of_one : List SourceLine → Program
sources_of_one sources = record {
  classes = [];
  nodes = record {
    name = codes "Page";
    body = Concrete (codes "Page");
    on_fail = [];
    declared = [];
  } ∷ [];
  sources = sources;
  predicates = [];
}

-- ---- doors

-- a door that has taken nothing back, with links to come and its two counts; nothing was logged
abbrev pub door : List (List SeenLink) → ℕ → ℕ → Sight SeenLink
door to_come faults late = record {
  to_come = Some to_come;
  taken_back = Some [];
  faults = faults;
  late = late;
  log = record { written = Some []; faults = 0 };
}
