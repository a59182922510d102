use Rattle.std.proofs.Common.{◌≡◌, ◌⊎◌, inl, inr, ℕ, ◌+◌, sym, ap, ◌∙◌}
use Rattle.flux_batches.specs.declared.reading.Sent.{Sent}
use Rattle.flux_batches.specs.declared.reading.Sent.TheVariants.{Failed, Memory}
use Rattle.flux_batches.specs.Replies.{flow_behind}
use Rattle.flux_batches.specs.steps.Answering.{flow_at}
use Rattle.flux_batches.proofs.Numbered.{flow-behind}
use Rattle.flux_batches.proofs.numbering.next_flow.Goals as goal

-- one that sent no text has no flow
silent : (flow : ℕ) (sent : Sent) → (sent ≡ Failed) ⊎ (sent ≡ Memory) → flow_behind flow sent ≡ flow
silent flow sent (inl is) = ap (flow_behind flow) is
silent flow sent (inr is) = ap (flow_behind flow) is

pub returns-in-Text-clause-next : goal.returns-in-Text-clause-next
returns-in-Text-clause-next g c =
    sym (flow-behind c.args.links.now c.args.place c.index-links-place.result c.requires.within
    ∙ ap (flow_behind (flow_at 0 c.args.links.now c.args.place)) c.in-Text.is
    ∙ ap (λ (flow : ℕ). flow + 1) (sym c.requires.at))

pub returns-in-Failed-clause-next : goal.returns-in-Failed-clause-next
returns-in-Failed-clause-next g c =
    sym (flow-behind c.args.links.now c.args.place c.index-links-place.result c.requires.within
    ∙ silent (flow_at 0 c.args.links.now c.args.place) _ c.in-Failed.is
    ∙ sym c.requires.at)

pub returns-in-Failed-2-clause-next : goal.returns-in-Failed-2-clause-next
returns-in-Failed-2-clause-next g c =
    sym (flow-behind c.args.links.now c.args.place c.index-links-place.result c.requires.within
    ∙ silent (flow_at 0 c.args.links.now c.args.place) _ c.in-Failed.is
    ∙ sym c.requires.at)
