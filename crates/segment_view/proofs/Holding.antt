-- What files of segments hold, of which the heads alone are known.
use Rattle.std.proofs.Common.{◌≡◌, ℕ, List, [], ◌∷◌, ◌++◌, ◌+◌, take, Bool, false, cond, refl, sym, ap, subst, ◌∙◌, Some}
use Rattle.std.specs.List.{slice_get}
use Rattle.std.proofs.lemmas.List.{append-nil, append_assoc}
use Rattle.outer_io.specs.Files.{Files}
use Rattle.point_codec.specs.Points.{Item}
use Rattle.documents.specs.Entries.{is_among}
use Rattle.segment_view.specs.LiveSegments.{LiveSegment, parts_among}
use Rattle.segment_view.specs.Held.{IsHeld, AreHeld}
use Rattle.segment_view.proofs.Stepwise.{among_more}

pub held_one : (D : ℕ) (files : Files) (p : LiveSegment) (xs : List Item) → IsHeld D files p xs → AreHeld D files (p ∷ []) xs
held_one D files p xs h = record { front_items = xs; back_items = []; front_holds = h; back_holds = refl; joined = sym (append-nil xs) }

-- a segment whose id is none of these
pub held_other : (D : ℕ) (files : Files) (ids : List ℕ) (p : LiveSegment) → is_among ids p.head.id ≡ false → AreHeld D files (parts_among ids (p ∷ [])) []
held_other D files ids p other = subst (λ (b : Bool). AreHeld D files (cond b (p ∷ []) []) []) (sym other) refl

pub held-append : (D : ℕ) (files : Files) (ps qs : List LiveSegment) (xs ys : List Item) → AreHeld D files ps xs → AreHeld D files qs ys
    → AreHeld D files (ps ++ qs) (xs ++ ys)
held-append D files [] qs xs ys a b = subst (λ (zs : List Item). AreHeld D files qs (zs ++ ys)) (sym a) b
held-append D files (p ∷ ps) qs xs ys a b = record {
  front_items = a.front_items;
  back_items = a.back_items ++ ys;
  front_holds = a.front_holds;
  back_holds = held-append D files ps qs a.back_items ys a.back_holds b;
  joined = ap (λ (zs : List Item). zs ++ ys) a.joined ∙ append_assoc a.front_items a.back_items ys;
}

-- the entries of one segment more are held behind the others
pub held_more : (D : ℕ) (files : Files) (ids : List ℕ) (parts : List LiveSegment) (i : ℕ) (p : LiveSegment) (xs more : List Item) → slice_get parts i ≡ Some p
    → AreHeld D files (parts_among ids (take i parts)) xs
    → AreHeld D files (parts_among ids (p ∷ [])) more → AreHeld D files (parts_among ids (take (i + 1) parts)) (xs ++ more)
held_more D files ids parts i p xs more is a b =
    subst (λ (ps : List LiveSegment). AreHeld D files ps (xs ++ more)) (sym (among_more ids parts i p is))
    (held-append D files (parts_among ids (take i parts)) (parts_among ids (p ∷ [])) xs more a b)
