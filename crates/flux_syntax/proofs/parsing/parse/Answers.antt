use Rattle.std.proofs.Common.{List, Err, map, refl, sym, ap, subst, ◌∙◌}
use Rattle.flux_syntax.specs.declared.declarations.Decl.{Decl}
use Rattle.flux_syntax.specs.Symbols.{symbol_of}
use Rattle.flux_syntax.specs.steps.Cursors.{Fit}
use Rattle.flux_syntax.specs.steps.Reading.{Reads, program_at}
use Rattle.flux_syntax.proofs.Fitting.{fit}
use Rattle.flux_syntax.proofs.Refused.{spelled, only, one_reading, not_stuck, no_place, one_place, unexpected, left_within}
use Rattle.flux_syntax.proofs.Texts.{few_words, unexpected_placed}
use Rattle.flux_syntax.proofs.parsing.parse.Goals as goal

pub new-cursor-requires : goal.new-cursor-requires
new-cursor-requires c = subst (Fit c.args.text.now) (sym c.as_slice.ensures) (fit c.args.text.now c.args.tokens.now c.requires)

pub returns-in-Ok-clause-parsed : goal.returns-in-Ok-clause-parsed
returns-in-Ok-clause-parsed c =
    let same = c.new-cursor.ensures ∙ ap (map (symbol_of c.args.text.now)) c.as_slice.ensures in
    let read = ap program_at (sym same) ∙ c.in-Ok.ensures in
    spelled c.args.text.now c.args.tokens.now c.in-Ok.decls c.declarations.new.cursor read

pub returns-in-Ok-clause-decls : goal.returns-in-Ok-clause-decls
returns-in-Ok-clause-decls c decls is =
    let same = c.new-cursor.ensures ∙ ap (map (symbol_of c.args.text.now)) c.as_slice.ensures in
    let read = ap program_at (sym same) ∙ c.in-Ok.ensures in
    only c.args.text.now c.args.tokens.now c.in-Ok.decls decls c.declarations.new.cursor read is

pub returns-in-Ok-clause-stands : goal.returns-in-Ok-clause-stands
returns-in-Ok-clause-stands c at stands =
    let same = c.new-cursor.ensures ∙ ap (map (symbol_of c.args.text.now)) c.as_slice.ensures in
    let read = ap program_at (sym same) ∙ c.in-Ok.ensures in
    no_place at c.args.text.now c.args.tokens.now c.in-Ok.decls (spelled c.args.text.now c.args.tokens.now c.in-Ok.decls c.declarations.new.cursor read) stands

pub place-requires : goal.place-requires
place-requires c =
    let same = c.new-cursor.ensures ∙ ap (map (symbol_of c.args.text.now)) c.as_slice.ensures in
    let read = ap program_at (sym same) ∙ subst (λ stop. Reads {A = List Decl} (Err stop) c.declarations.new.cursor (program_at c.new-cursor.result)) c.in-Err-Unexpected.field-0-is c.in-Err-Unexpected.ensures in
    record { few = c.requires.few; some = rw (c.as_slice-in-Err-Unexpected.ensures, c.len.ensures) (left_within c.args.text.now c.args.tokens.now c.declarations.new.cursor read) }

pub returns-in-Err-Unexpected-clause-fault : goal.returns-in-Err-Unexpected-clause-fault
returns-in-Err-Unexpected-clause-fault c =
    let same = c.new-cursor.ensures ∙ ap (map (symbol_of c.args.text.now)) c.as_slice.ensures in
    let read = ap program_at (sym same) ∙ subst (λ stop. Reads {A = List Decl} (Err stop) c.declarations.new.cursor (program_at c.new-cursor.result)) c.in-Err-Unexpected.field-0-is c.in-Err-Unexpected.ensures in
    (refl, c.new.ensures, rw (c.place.ensures, c.as_slice-in-Err-Unexpected.ensures, c.len.ensures) (unexpected c.args.text.now c.args.tokens.now c.declarations.new.cursor read))

pub returns-in-Err-Unexpected-clause-decls : goal.returns-in-Err-Unexpected-clause-decls
returns-in-Err-Unexpected-clause-decls c decls is =
    let same = c.new-cursor.ensures ∙ ap (map (symbol_of c.args.text.now)) c.as_slice.ensures in
    let read = ap program_at (sym same) ∙ subst (λ stop. Reads {A = List Decl} (Err stop) c.declarations.new.cursor (program_at c.new-cursor.result)) c.in-Err-Unexpected.field-0-is c.in-Err-Unexpected.ensures in
    not_stuck c.args.text.now c.args.tokens.now decls c.declarations.new.cursor read is

pub returns-in-Err-Unexpected-clause-stands : goal.returns-in-Err-Unexpected-clause-stands
returns-in-Err-Unexpected-clause-stands c at stands =
    let same = c.new-cursor.ensures ∙ ap (map (symbol_of c.args.text.now)) c.as_slice.ensures in
    let read = ap program_at (sym same) ∙ subst (λ stop. Reads {A = List Decl} (Err stop) c.declarations.new.cursor (program_at c.new-cursor.result)) c.in-Err-Unexpected.field-0-is c.in-Err-Unexpected.ensures in
    rw (c.place.ensures, c.as_slice-in-Err-Unexpected.ensures, c.len.ensures) (one_place _ at c.args.text.now c.args.tokens.now (unexpected c.args.text.now c.args.tokens.now c.declarations.new.cursor read) stands)

pub returns-in-Ok-clause-one : goal.returns-in-Ok-clause-one
returns-in-Ok-clause-one c decls others a b = one_reading c.args.text.now c.args.tokens.now decls others a b

pub returns-in-Err-Memory-clause-one : goal.returns-in-Err-Memory-clause-one
returns-in-Err-Memory-clause-one c decls others a b = one_reading c.args.text.now c.args.tokens.now decls others a b

pub returns-in-Err-Unexpected-clause-one : goal.returns-in-Err-Unexpected-clause-one
returns-in-Err-Unexpected-clause-one c decls others a b = one_reading c.args.text.now c.args.tokens.now decls others a b

pub returns-in-Ok-clause-few : goal.returns-in-Ok-clause-few
returns-in-Ok-clause-few c =
    let same = c.new-cursor.ensures ∙ ap (map (symbol_of c.args.text.now)) c.as_slice.ensures in
    let read = ap program_at (sym same) ∙ c.in-Ok.ensures in
    few_words c.in-Ok.decls c.args.text.now (record { tokens = c.args.tokens.now; are = c.requires; spelled = spelled c.args.text.now c.args.tokens.now c.in-Ok.decls c.declarations.new.cursor read })

pub returns-in-Err-Unexpected-clause-placed : goal.returns-in-Err-Unexpected-clause-placed
returns-in-Err-Unexpected-clause-placed c =
    let same = c.new-cursor.ensures ∙ ap (map (symbol_of c.args.text.now)) c.as_slice.ensures in
    let read = ap program_at (sym same) ∙ subst (λ stop. Reads {A = List Decl} (Err stop) c.declarations.new.cursor (program_at c.new-cursor.result)) c.in-Err-Unexpected.field-0-is c.in-Err-Unexpected.ensures in
    rw (c.place.ensures, c.as_slice-in-Err-Unexpected.ensures, c.len.ensures)
    (unexpected_placed c.args.text.now c.args.tokens.now _ c.requires (unexpected c.args.text.now c.args.tokens.now c.declarations.new.cursor read))
