-- Where no view is named a query looks at what is live now.
use Rattle.std.proofs.Common.{◌≡◌, ◌==◌, ℕ, false, List, [], ◌∷◌, None, Ok, refl, sym, ◌∙◌}
use Rattle.std.specs.Prelude.{slice_index}
use Rattle.script_lang.specs.Parts.{names_view}
use Rattle.script_lang.specs.Reading.{query_of}
use Rattle.script_lang.proofs.queries.view_at.Goals as goal

now_query : (words : List (List ℕ)) (place : ℕ) → place ≡ 2 → names_view words ≡ false
    → query_of words ≡ Ok (record { view = None; place = place; words = words })
unfolding query_of
now_query [] place two none = rw two refl
now_query (w ∷ ws) place two none = let test : (slice_index w 0 == 64) ≡ false = none in rw (two, test) refl

pub returns-then-not-names_view-clause-query : goal.returns-then-not-names_view-clause-query
returns-then-not-names_view-clause-query c = now_query _ _ c.requires (sym c.names_view.ensures ∙ c.if-not-names_view.true)
