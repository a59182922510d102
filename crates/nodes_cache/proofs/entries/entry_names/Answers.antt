use Rattle.std.proofs.Common.{◌≡◌, ◌∙◌, ap, sym, map, Some}
use Rattle.std.specs.FinMap.{keys}
use Rattle.nodes_cache.specs.Entries.{entry_name}
use Rattle.nodes_cache.proofs.EntryLemmas.{names_more, names_same}
use Rattle.nodes_cache.proofs.entries.entry_names.Goals as goal
use Rattle.nodes_cache.proofs.entries.entry_names.Goals.{in-Some-entry_name+in_ok-push, in_default-entry_name}

pub loop-place-preserved : goal.loop-place-preserved
loop-place-preserved c = elim c.match-entry_name.branch [
  | in-Some-entry_name+in_ok-push w ↦
      ap (λ v. map (λ n. n.now) v.items) w.names-is ∙ ap (map (λ n. n.now)) w.in_ok-push.ensures.items
      ∙ names_more (λ n. n.now) c.loop-place.names.items w.in-Some-entry_name.name (keys c.args.cell.now) c.loop-place.place c.in-Some.key.now c.loop-place.invariant c.in-Some.ensures (w.in-Some-entry_name.ensures ∙ ap entry_name c.as_bytes.ensures.same)
  | in_default-entry_name w ↦
      ap (λ v. map (λ n. n.now) v.items) w.names-is
      ∙ names_same (map (λ n. n.now) c.loop-place.names.items) (keys c.args.cell.now) c.loop-place.place c.in-Some.key.now c.loop-place.invariant c.in-Some.ensures (w.in_default-entry_name.ensures ∙ ap entry_name c.as_bytes.ensures.same)
]
