-- Why these programs are served or not, and serving ends so or doesn't.
use Rattle.std.proofs.Common.{◌≡◌, ◌≤◌, ℕ, List, [], ◌∷◌, codes, length, Option, Some, None, ap, refl, ◌∙◌, inl, inr, arith}
use Rattle.flux_values.specs.declared.meanings.Role.{Role}
use Rattle.flux_values.specs.declared.meanings.Role.TheVariants.{Plain, Source, HeadSource, LineSource}
use Rattle.flux_values.specs.declared.meanings.Sig.{Sig}
use Rattle.flux_doors.specs.declared.framing.Framing.{Framing}
use Rattle.flux_doors.specs.declared.framing.Framing.TheVariants.{Head, Line}
use Rattle.flux_doors.specs.Seen.{SeenLink}
use Rattle.flux_serve.specs.declared.batches.ServeEnd.TheVariants.{Memory}
use Rattle.flux_sources.specs.Sources.{role_of, IsServed}
use Rattle.flux_examples.specs.SmallServing.{with_role, sig_with, line, sources_of_one, door}
use Rattle.flux_examples.specs.Serving.{Stops, ServingFits, ServingMisfits}
use Rattle.flux_examples.proofs.Doors.{rose, stands}
use Rattle.flux_examples.proofs.Rounds.{goes_round}
use Rattle.flux_examples.proofs.Orders.{first_begins, listed_first}

-- a number for each role
abbrev role_number : Role → ℕ
role_number Plain = 0
role_number Source = 1
role_number HeadSource = 2
role_number LineSource = 3

abbrev role_in : Option Sig → ℕ
role_in None = 4
role_in (Some sig) = role_number sig.role

-- where the library's nodes have a role, links are read by it
by_role : (role : Role) (framing : Framing) → IsServed (with_role role) (sources_of_one (line ∷ [])) framing → role_number role ≡ role_number (role_of framing)
by_role role framing is = ap role_in is.known ∙ ap role_number is.role

-- how many links the first batch has, where it is reported
abbrev first_count : Option (List (List SeenLink)) → ℕ
first_count None = 0
first_count (Some []) = 0
first_count (Some (links ∷ batches)) = length links

abbrev is_some : Option SeenLink → ℕ
is_some None = 0
is_some (Some link) = 1

not_plain : (framing : Framing) → 0 ≡ role_number (role_of framing) → ⊥
not_plain Head is = let same : 0 ≡ 2 = is in omega (arith, same)
not_plain Line is = let same : 0 ≡ 3 = is in omega (arith, same)

pub fit : ServingFits
fit = record {
  heads_ = record { line = line; one = refl; name = codes "Page"; sig = sig_with HeadSource; named = record { node = _; at = refl; concrete = refl }; known = refl; role = refl };
  none = λ framing is. let same : 0 ≡ 1 = ap length is.one in omega (arith, same);
  several = λ framing is. let same : 2 ≡ 1 = ap length is.one in omega (arith, same);
  plain = λ framing is. not_plain framing (by_role Plain framing is);
  closed = (refl, refl, refl, refl, refl);
  failed = (rose, refl, refl, refl, refl);
  in_order = goes_round;
}

-- late accepts aren't forgotten
not_fallen : (before after : List (List SeenLink)) → Stops (door before 0 1) (door after 0 0) Memory → ⊥
not_fallen before after (inl undriven) = let later : 1 ≤ 0 = undriven.later in omega (arith, later)
not_fallen before after (inr (batch, driven)) = let later : 1 ≤ 0 = driven.later in omega (arith, later)

pub misfit : ServingMisfits
misfit = record {
  lines = λ is. let same : 2 ≡ 3 = by_role HeadSource Line is in omega (arith, same);
  closed = λ stops. let same : 1 ≡ 0 = ap is_some stops.0 in omega (arith, same);
  later = λ stops. let same : 1 ≡ 0 = stops.4 in omega (arith, same);
  failed = λ stops. stands stops.0;
  lost = λ stops. let same : 0 ≡ 1 = ap first_count stops.3 in omega (arith, same);
  fallen = not_fallen;
  counted = λ before after stops. stops;
  turned = first_begins;
  unlisted = listed_first;
}
