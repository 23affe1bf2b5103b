-- Points, read one after the other.
use Rattle.std.proofs.Common.{◌≡◌, ℕ, ℤ, zero, suc, ◌+◌, ◌*◌, ◌/◌, ◌%◌, ◌==◌, ◌<◌, ◌≤◌, ◌&&◌, Bool, true, false, cond, List, [], ◌∷◌, ◌++◌, length, drop, arith}
use Rattle.std.proofs.Common.{Result, Ok, Err, refl, ap, sym, subst, ◌∙◌, ⊎_elim, append_assoc, length-append, length-drop, take_all, add-one}
use Rattle.std.specs.Prelude.{◌≢◌, nat_le, MatchResult}
use Rattle.std.proofs.lemmas.Bool.{and_parts, cases_lt, eqb-true, leb-true}
use Rattle.std.proofs.lemmas.List.{append-nil, take-append-le, drop-append-le}
use Rattle.std.proofs.lemmas.Nat.{div-add-mod', mul-le, row_fits, same_from_place}
use Rattle.std.proofs.Math.Nat.{suc-mul, zero-mul}
use Rattle.number_text.specs.Number.{coordinate}
use Rattle.point_codec.specs.Seen.{coordinates_of}
use Rattle.point_codec.specs.declared.coordinates.Point.{Point}
use Rattle.script_lang.specs.Reading.{document_of, is_from_to, pieces, points_of, values_of}
use Rattle.script_lang.specs.Parts.{words_left, Writes, joined_coordinates, ReadsAs, ReadsPoints}
use Rattle.script_lang.specs.declared.faults.LineFault.{LineFault}
use Rattle.script_lang.specs.declared.faults.LineFault.TheVariants as fault
use Rattle.script_lang.specs.declared.words.Words.{Words}
use Rattle.script_lang.proofs.Values.{all_values, fails_later, writes_both}

joined-append : {D : ℕ} (ps : List (Point D)) (p : Point D) → joined_coordinates (ps ++ p ∷ []) ≡ joined_coordinates ps ++ p.c
joined-append [] p = append-nil p.c
joined-append (q ∷ ps) p = ap (λ cs. q.c ++ cs) (joined-append ps p) ∙ sym (append_assoc q.c (joined_coordinates ps) p.c)

coordinates-append : {D : ℕ} (ps : List (Point D)) (p : Point D) → coordinates_of (ps ++ p ∷ []) ≡ coordinates_of ps ++ p.c ∷ []
coordinates-append [] p = refl
coordinates-append (q ∷ ps) p = ap (λ cs. q.c ∷ cs) (coordinates-append ps p)

-- a piece more at the end
pieces-more : (n size : ℕ) (cs p : List ℤ) → length cs ≡ n * size → length p ≡ size → pieces (suc n) size (cs ++ p) ≡ pieces n size cs ++ p ∷ []
pieces-more zero size [] p long whole = rw (take_all size p (omega arith)) refl
pieces-more zero size (c ∷ cs) p long whole = absurd (omega (arith, zero-mul size))
pieces-more (suc n) size cs p long whole =
    let more : length cs ≡ n * size + size = long ∙ suc-mul n size in
    let enough : size ≤ length cs = omega arith in
    let rest : length (drop size cs) ≡ n * size = omega (arith, length-drop size cs) in
    rw (take-append-le size cs p enough, drop-append-le size cs p enough, pieces-more n size (drop size cs) p rest whole) refl

pub reads_more : {D : ℕ} (ps qs : List (Point D)) (p : Point D) (a b d : Words) → ReadsPoints D ps a b → Writes coordinate p.c b d
    → length p.c ≡ D → qs ≡ ps ++ p ∷ [] → ReadsPoints D qs a d
reads_more {D} ps qs p a b d r w whole is = rw is (record {
  writes = rw (joined-append ps p) (writes_both r.writes w);
  cut = rw (joined-append ps p, coordinates-append ps p, length-append ps (p ∷ []), add-one, ← r.cut)
      (pieces-more (length ps) D (joined_coordinates ps) p.c r.long whole);
  long = rw (joined-append ps p, length-append (joined_coordinates ps) p.c, length-append ps (p ∷ []), add-one, suc-mul (length ps) D) (omega (arith, r.long));
})

-- ---- the words of a document

-- where no word is left all points are read
pub reads_all : {D : ℕ} (count : ℕ) (ps : List (Point D)) (a b : Words) → 1 ≤ D → ReadsPoints D ps a b → length (words_left b) ≡ 0
    → length (words_left a) ≡ count * D → points_of count D (values_of coordinate a.place (words_left a)) ≡ Ok (coordinates_of ps)
reads_all {D} count ps a b some r none all =
    let place : length ps * D + 0 ≡ count * D + 0 = omega (arith, none, all, r.long, r.writes.count) in
    let same : length ps ≡ count = (same_from_place (length ps) 0 count 0 D (omega arith) (omega arith) place).0 in
    ap (points_of count D) (all_values coordinate (joined_coordinates ps) a b r.writes (omega (arith, none)))
    ∙ ap (λ (n : ℕ). points_of n D (Ok (joined_coordinates ps))) (sym same) ∙ ap Ok r.cut

-- behind 16 points no word is left of so few
pub none_left : {D : ℕ} (count : ℕ) (ps : List (Point D)) (a b : Words) → ReadsPoints D ps a b → 16 ≤ length ps → count ≤ 16
    → length (words_left a) ≡ count * D → length (words_left b) ≡ 0
none_left {D} count ps a b r many few all =
    let most : count * D ≤ length ps * D = mul-le count D (length ps) D (omega arith) (omega arith) in
    omega (arith, most, all, r.long, r.writes.count)

-- where words were there and none is left a point is read
pub some_read : {D : ℕ} (ps : List (Point D)) (a b : Words) → ReadsPoints D ps a b → length (words_left b) ≡ 0 → 0 < length (words_left a) → 1 ≤ length ps
some_read [] a b r none some = absurd (omega (arith, r.writes.count))
some_read (p ∷ ps) a b r none some = omega arith

-- where words are left of whole points they are enough for one more
enough_left : (n count size rest : ℕ) → n * size + rest ≡ count * size → 0 < rest → size ≤ rest
enough_left n count size rest all some = ⊎_elim
    (λ (more : n < count). let fits : n * size + size ≤ count * size = row_fits n size count size more (omega arith) in omega (arith, fits, all))
    (λ (less : count ≤ n). let fits : count * size ≤ n * size = mul-le count size n size less (omega arith) in absurd (omega (arith, fits, all, some)))
    (cases_lt n count)

-- the fault of a point behind others is the fault of all
pub points_fault : {D : ℕ} (f : LineFault) (count : ℕ) (ps : List (Point D)) (a b : Words) → ReadsPoints D ps a b → 0 < length (words_left b)
    → length (words_left a) ≡ count * D → (D ≤ length (words_left b) → values_of coordinate b.place (words_left b) ≡ Err f)
    → points_of count D (values_of coordinate a.place (words_left a)) ≡ Err f
points_fault {D} f count ps a b r some all told =
    let so_far : length ps * D + length (words_left b) ≡ count * D = omega (arith, all, r.long, r.writes.count) in
    ap (points_of count D) (fails_later f r.writes (told (enough_left (length ps) count D (length (words_left b)) so_far some)))

-- what is read, but for want of memory
pub reads_from : {C X : Type 0} (seen : C → X) (result : Result C LineFault) (read same : Result X LineFault) → read ≡ same
    → MatchResult result (λ c. same ≡ Ok (seen c)) (λ f. f ≢ fault.Memory → same ≡ Err f) → ReadsAs seen result read
reads_from seen (Ok c) read same e h = e ∙ h
reads_from seen (Err fault.Memory) read same e h = tt
reads_from seen (Err f) read same e h = e ∙ h (λ m. cc)

-- so many words write no document
pub no_document : (dims place n : ℕ) (words : List (List ℕ)) → n ≡ length words → (n % dims == 0 && is_from_to 1 16 (n / dims)) ≡ false
    → document_of dims place words ≡ Err fault.Words
unfolding document_of
no_document dims place n words is wrong =
    ap (λ (t : Bool). cond t (points_of (length words / dims) dims (values_of coordinate place words)) (Err fault.Words))
    (subst (λ (m : ℕ). (m % dims == 0 && is_from_to 1 16 (m / dims)) ≡ false) is wrong)

-- words write a document of so many points
pub record IsDocument (dims place count : ℕ) (words : List (List ℕ)) : Type 0 where
  pub whole : length words ≡ count * dims
  pub more : 0 < length words
  pub few : count ≤ 16
  pub is : document_of dims place words ≡ points_of count dims (values_of coordinate place words)

pub document_is : (dims place n : ℕ) (words : List (List ℕ)) → 1 ≤ dims → n ≡ length words → (n % dims == 0 && is_from_to 1 16 (n / dims)) ≡ true
    → IsDocument dims place (n / dims) words
unfolding document_of
document_is dims place n words some is right =
    let both : ((n % dims == 0) ≡ true) × (is_from_to 1 16 (n / dims) ≡ true) = and_parts (n % dims == 0) (is_from_to 1 16 (n / dims)) right in
    let ends : (nat_le 1 (n / dims) ≡ true) × (nat_le (n / dims) 16 ≡ true) = and_parts (nat_le 1 (n / dims)) (nat_le (n / dims) 16) both.1 in
    let none : n % dims ≡ 0 = eqb-true (n % dims) 0 both.0 in
    let parts : n / dims * dims + n % dims ≡ n = div-add-mod' n dims in
    let least : 1 * 1 ≤ n / dims * dims = mul-le 1 1 (n / dims) dims (leb-true 1 (n / dims) ends.0) some in
    record {
      whole = omega (arith, is, none, parts);
      more = omega (arith, is, none, parts, least);
      few = leb-true (n / dims) 16 ends.1;
      is = ap (λ (t : Bool). cond t (points_of (length words / dims) dims (values_of coordinate place words)) (Err fault.Words))
          (subst (λ (m : ℕ). (m % dims == 0 && is_from_to 1 16 (m / dims)) ≡ true) is right)
          ∙ ap (λ (m : ℕ). points_of (m / dims) dims (values_of coordinate place words)) (sym is);
    }
