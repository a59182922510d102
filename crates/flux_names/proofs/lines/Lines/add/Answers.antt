use Rattle.std.proofs.Common.{arith, ◌∙◌, ◌++◌, ◌∷◌, [], List, Vec, Global, get_or, set, map, ap, sym}
use Rattle.std.specs.Borrow.{Bor}
use Rattle.std.proofs.lemmas.List.{map-set, map_push, get_or-map}
use Rattle.flux_syntax.specs.declared.declarations.Decl.{Decl}
use Rattle.flux_names.proofs.lines.Lines.add.Goals as goal

abbrev lines_in : Vec (Bor Decl) Global → List Decl
lines_in lines = map (λ line. line.now) lines.items

pub returns-in_ok-push : goal.returns-in_ok-push
returns-in_ok-push c =
    let lists = c.self.inside.lists.items in
    let number = c.args.number in
    let own = c.index_mut.result.now in
    map-set lines_in lists number c.push.new.self
    ∙ ap (set (map lines_in lists) number)
    (ap (map (λ line. line.now)) c.in_ok-push.ensures.items
    ∙ map_push (λ (line : Bor Decl). line.now) own.items c.args.line
    ∙ ap (λ (l : List Decl). l ++ c.args.line.now ∷ []) (ap lines_in c.index_mut.ensures.value ∙ sym (get_or-map lines_in lists number own [] (omega arith))))
    ∙ ap (λ (l : List (List Decl)). set l number (get_or l number [] ++ c.args.line.now ∷ [])) c.self.view_is
