-- Entries are added one after the other.
use Rattle.std.proofs.Common.{◌≡◌, ◌≤◌, ◌<◌, ◌+◌, ◌^◌, ℕ, List, [], ◌∷◌, ◌++◌, length, take}
use Rattle.std.proofs.Common.{get_or, Result, Ok, sym, ap, subst, ◌∙◌, arith, ℤ}
use Rattle.std.proofs.lemmas.List.{length-map, length-take-le, map-append, take_all, take_more}
use Rattle.page_cache.specs.declared.faults.PageFault.{PageFault}
use Rattle.point_codec.specs.declared.entries.Entry.{Entry}
use Rattle.segment_set.specs.AtOnce.{points_in}
use Rattle.index_core.specs.Whole.{Adds, SessionMoment}
use Rattle.index_core.proofs.Adding.{adds_then}

-- one entry more of the list
pub adds_more : {T U : Type 0} (D : ℕ) (told : Type 0) (entries : List (Entry D)) (k : ℕ) (e : Entry D) (a b c : SessionMoment) (x : U) (r : Result T PageFault)
    → k < length entries → e ≡ get_or entries k e
    → Adds D told (points_in (take k entries)) a b (Ok x) → Adds D told (e.point.c ∷ []) b c r → Adds D told (points_in (take (k + 1) entries)) a c r
adds_more D told entries k e a b c x r inside is first second =
    subst (λ (qs : List (List ℤ)). Adds D told qs a c r)
    (sym (map-append (λ (q : Entry D). q.point.c) (take k entries) (e ∷ []))
    ∙ sym (ap points_in (take_more entries k e inside ∙ ap (λ (q : Entry D). take k entries ++ q ∷ []) (sym is))))
    (adds_then D told (points_in (take k entries)) (e.point.c ∷ []) a b c x r first second)

-- where as many were added as there are, all were
pub adds_all : {T : Type 0} (D : ℕ) (told : Type 0) (entries : List (Entry D)) (k : ℕ) (a b : SessionMoment) (r : Result T PageFault) → length entries ≤ k
    → Adds D told (points_in (take k entries)) a b r
    → Adds D told (points_in entries) a b r
adds_all D told entries k a b r long adds = subst (λ (qs : List (Entry D)). Adds D told (points_in qs) a b r) (take_all k entries long) adds

-- there is room for the next one
pub room_for_next : (D : ℕ) (entries : List (Entry D)) (k before now : ℕ) → k < length entries → before + length entries ≤ 2 ^ 24
    → now ≡ before + length (points_in (take k entries)) → now + 1 ≤ 2 ^ 24
room_for_next D entries k before now inside fits is =
    let long = length-map (take k entries) (λ (q : Entry D). q.point.c) in
    let cut = length-take-le k entries (omega (arith, inside)) in
    omega (arith, inside, fits, is, long, cut)
