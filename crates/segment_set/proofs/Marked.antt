-- The entries of a number are marked as gone, one after another.
use Rattle.std.proofs.Common.{◌≡◌, ℕ, ◌≤◌, ◌<◌, ◌+◌, ◌++◌, Bool, true, false, eqb, List, length, map, take, drop, get_or, set, refl, sym, ap, subst, ◌∙◌, arith}
use Rattle.std.specs.Int.{from_bool}
use Rattle.std.specs.List.{filter}
use Rattle.std.proofs.lemmas.List.{drop_at, get_or-drop, length-append, length-map, length-take-le, take-append-drop}
use Rattle.std.proofs.lemmas.List.Edits.{map_over_more}
use Rattle.point_codec.specs.declared.entries.Entry.{Entry}
use Rattle.segment_set.specs.Runs.{IsRunOf}
use Rattle.segment_set.specs.Waiting.{came_as, gone_as, waits}
use Rattle.segment_set.proofs.Buffered.{count_set, entry_out, gone_waits_not, goes_out, one_where}

module _ {X : Type 0} (f : X → X) (xs ys : List X) (i : ℕ) (is : ys ≡ map f (take i xs) ++ drop i xs) where
  pub same_length : length ys ≡ length xs
  same_length =
      ap length is ∙ length-append (map f (take i xs)) (drop i xs)
      ∙ ap (λ n. n + length (drop i xs)) (length-map (take i xs) f)
      ∙ sym (length-append (take i xs) (drop i xs))
      ∙ ap length (take-append-drop i xs)

  same_rest : i ≤ length xs → drop i ys ≡ drop i xs
  same_rest le = ap (drop i) is ∙ drop_at (map f (take i xs)) (drop i xs) i (length-map (take i xs) f ∙ length-take-le i xs le)

  -- the element at the place is as it was
  pub same_place : (d : X) → i ≤ length xs → get_or ys i d ≡ get_or xs i d
  same_place d le =
      ap (λ n. get_or ys n d) here
      ∙ sym (get_or-drop i ys 0 d)
      ∙ ap (λ zs. get_or zs 0 d) (same_rest le)
      ∙ get_or-drop i xs 0 d
      ∙ ap (λ n. get_or xs n d) (sym here)
    where
      here : i ≡ i + 0
      here = omega arith

-- one entry more of the run is marked as gone
pub mark_step : {D : ℕ} (number : ℕ) (xs ys : List (Entry D)) (first end i : ℕ) (x e : Entry D)
    → IsRunOf (λ (z : Entry D). came_as z.doc) number xs first end
    → first ≤ i → i < end → end ≤ length xs → ys ≡ map (entry_out number) (take i xs) ++ drop i xs → x ≡ get_or ys i x → e ≡ record x { doc = gone_as x.doc }
    → set ys i e ≡ map (entry_out number) (take (i + 1) xs) ++ drop (i + 1) xs
mark_step number xs ys first end i x e run from to most is read after =
    let within : i < length xs = omega (arith, to, most) in
    let own : eqb (came_as x.doc) number ≡ true =
    subst (λ z. eqb (came_as z.doc) number ≡ true) (sym (read ∙ same_place (entry_out number) xs ys i is x (omega (arith, within)))) (run.inside i x from to) in
    ap (set ys i) (after ∙ sym (goes_out number x own)) ∙ map_over_more (entry_out number) xs ys i x within is read

-- a Bool as a number
pub byte_of : (b : Bool) → from_bool b ≡ one_where b
byte_of true = refl
byte_of false = refl

-- and counted, where it did wait
pub count_step : {D : ℕ} (ys : List (Entry D)) (i : ℕ) (x e : Entry D) (count total : ℕ) (b : Bool) → i < length ys → x ≡ get_or ys i x
    → e ≡ record x { doc = gone_as x.doc } → b ≡ waits x.doc → length (filter (λ (z : Entry D). waits z.doc) ys) + count ≡ total
    → length (filter (λ (z : Entry D). waits z.doc) (set ys i e)) + (count + one_where b) ≡ total
count_step {D} ys i x e count total b within read after is counted =
    let both = count_set (λ (z : Entry D). waits z.doc) ys i x e within in
    let gone : one_where (waits e.doc) ≡ 0 = ap (λ (z : Entry D). one_where (waits z.doc)) after ∙ ap one_where (gone_waits_not x.doc) in
    let was : one_where (waits (get_or ys i x).doc) ≡ one_where b = ap (λ (z : Entry D). one_where (waits z.doc)) (sym read) ∙ ap one_where (sym is) in
    omega (arith, both, gone, was, counted)
