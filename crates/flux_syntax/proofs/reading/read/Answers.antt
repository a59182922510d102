use Rattle.std.proofs.lemmas.Result.{err_from_is_err_and}
use Rattle.flux_syntax.proofs.Texts.{refused_with, decls_with, stands_with, refused_without, decls_without, stands_without}
use Rattle.flux_syntax.proofs.reading.read.Goals as goal

pub returns-in_err-tokens-clause-fault : goal.returns-in_err-tokens-clause-fault
returns-in_err-tokens-clause-fault c =
    let passed = err_from_is_err_and c.from_residual.result c.from_residual.ensures.1 in
    let said = c.in_err-tokens.ensures in
    rw (passed.1, passed.2) (refused_without c.args.text.now c.in_err-tokens.field-0.0 said.fault said.placed)

pub returns-in_err-tokens-clause-decls : goal.returns-in_err-tokens-clause-decls
returns-in_err-tokens-clause-decls c decls declared =
    let passed = err_from_is_err_and c.from_residual.result c.from_residual.ensures.1 in
    rw (passed.1, passed.2) (decls_without c.args.text.now c.in_err-tokens.field-0.0 c.in_err-tokens.ensures.tokens decls declared)

pub returns-in_err-tokens-clause-stands : goal.returns-in_err-tokens-clause-stands
returns-in_err-tokens-clause-stands c kind at faulty =
    let passed = err_from_is_err_and c.from_residual.result c.from_residual.ensures.1 in
    let said = c.in_err-tokens.ensures in
    rw (passed.1, passed.2) (stands_without c.args.text.now c.in_err-tokens.field-0.0 said.tokens said.stands kind at faulty)

pub returns-clause-fault : goal.returns-clause-fault
returns-clause-fault c = refused_with c.args.text.now c.in_ok-tokens.tokens c.parse.result c.in_ok-tokens.ensures.read c.parse.ensures.fault c.parse.ensures.placed

pub returns-clause-decls : goal.returns-clause-decls
returns-clause-decls c decls declared = decls_with c.args.text.now c.in_ok-tokens.tokens c.parse.result c.in_ok-tokens.ensures.tokens c.parse.ensures.decls decls declared

pub returns-clause-stands : goal.returns-clause-stands
returns-clause-stands c kind at faulty = stands_with c.args.text.now c.in_ok-tokens.tokens c.parse.result c.in_ok-tokens.ensures.tokens c.in_ok-tokens.ensures.stands c.parse.ensures.fault c.parse.ensures.stands kind at faulty
