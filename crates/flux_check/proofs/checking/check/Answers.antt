use Rattle.std.proofs.lemmas.Result.{IfOk-weaker, IfErr-weaker, err_from_is_err_and}
use Rattle.flux_check.proofs.Judged.{text_refused, reading_refused}
use Rattle.flux_check.proofs.Exclusive.{not_both, only_memory, that_decls, that_reading}
use Rattle.flux_check.proofs.checking.check.Goals as goal

pub returns-in_err-decls-clause-sound : goal.returns-in_err-decls-clause-sound
returns-in_err-decls-clause-sound g c = λ sound.
    let passed = err_from_is_err_and c.from_residual.result c.from_residual.ensures.1 in
    rw (passed.1, passed.2) (only_memory (g.L.Meaning.meaning c.args.library.now) c.args.text.now c.in_err-decls.field-0.0 sound (reading_refused (g.L.Meaning.meaning c.args.library.now) c.args.text.now c.in_err-decls.field-0.0 c.in_err-decls.ensures.fault))

pub returns-in_err-decls-clause-fault : goal.returns-in_err-decls-clause-fault
returns-in_err-decls-clause-fault g c =
    let passed = err_from_is_err_and c.from_residual.result c.from_residual.ensures.1 in
    rw (passed.1, passed.2) (reading_refused (g.L.Meaning.meaning c.args.library.now) c.args.text.now c.in_err-decls.field-0.0 c.in_err-decls.ensures.fault)

pub returns-in_err-decls-clause-stands : goal.returns-in_err-decls-clause-stands
returns-in_err-decls-clause-stands g c = λ fault told.
    let passed = err_from_is_err_and c.from_residual.result c.from_residual.ensures.1 in
    rw (passed.1, passed.2) (that_reading (g.L.Meaning.meaning c.args.library.now) c.args.text.now fault c.in_err-decls.field-0.0 c.in_err-decls.ensures.stands c.in_err-decls.ensures.decls told)

pub returns-clause-fault : goal.returns-clause-fault
returns-clause-fault g c =
    IfErr-weaker c.judge.result _ _ (λ f a. text_refused (g.L.Meaning.meaning c.args.library.now) c.args.text.now c.in_ok-decls.decls f c.in_ok-decls.ensures.declared a) c.judge.ensures.fault

pub returns-clause-checked : goal.returns-clause-checked
returns-clause-checked g c =
    IfOk-weaker c.judge.result _ _ (λ k a. record { decls = c.in_ok-decls.decls; declared = c.in_ok-decls.ensures.declared; checked = a }) c.judge.ensures.checked

pub returns-clause-sound : goal.returns-clause-sound
returns-clause-sound g c = λ sound. IfErr-weaker c.judge.result _ _ (λ f a. only_memory (g.L.Meaning.meaning c.args.library.now) c.args.text.now f sound a) (returns-clause-fault g c)

pub returns-clause-faulty : goal.returns-clause-faulty
returns-clause-faulty g c = λ fault told.
    IfOk-weaker c.judge.result _ _ (λ k a. not_both (g.L.Meaning.meaning c.args.library.now) c.args.text.now fault (record { decls = c.in_ok-decls.decls; declared = c.in_ok-decls.ensures.declared; sound = a.sound }) told) c.judge.ensures.checked

pub returns-clause-stands : goal.returns-clause-stands
returns-clause-stands g c = λ fault told.
    IfErr-weaker c.judge.result _ _ (λ f a. that_decls (g.L.Meaning.meaning c.args.library.now) c.args.text.now c.in_ok-decls.decls fault f c.in_ok-decls.ensures.declared told a) (returns-clause-fault g c)
