-- The program's text declares what it should.
use Rattle.std.proofs.Common.{◌≡◌, List, [], map, Option, Some, None, refl, arith}
use Rattle.flux_lexer.specs.declared.kinds.Token.{Token}
use Rattle.flux_load.specs.Loads.{program_text}
use Rattle.flux_syntax.specs.Symbols.{symbol_of}
use Rattle.flux_syntax.specs.Declares.{Declares}
use Rattle.flux_syntax.specs.steps.Reading.{got, program_at}
use Rattle.flux_syntax.proofs.Refused.{spelled}
use Rattle.flux_headline.specs.LoadDeclarations.{program_decls}
use Rattle.flux_headline.proofs.LoadLexed.{tokens_seen, laid_out}

abbrev some_or_none : Option (List Token) → List Token
some_or_none None = []
some_or_none (Some tokens) = tokens

abbrev program_tokens : List Token
program_tokens = some_or_none (tokens_seen 400 0 program_text)

seen : tokens_seen 400 0 program_text ≡ Some program_tokens
seen = refl

read : program_at (map (symbol_of program_text) program_tokens) ≡ got program_decls []
read = refl

pub declared : Declares program_decls program_text
declared = let laid = laid_out 400 0 program_text program_tokens seen in record {
  tokens = program_tokens;
  are = record { few = omega arith; parts = laid.parts; laid = laid.laid; are = laid.are };
  spelled = spelled program_text program_tokens program_decls [] read;
}
