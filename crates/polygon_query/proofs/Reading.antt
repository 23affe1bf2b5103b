-- Readings that go on, element by element.
use Rattle.std.proofs.Common.{◌≡◌, ℕ, ◌+◌, ◌*◌, ◌≤◌, All, sum_by, Bool, true, false, List, [], ◌∷◌, ◌++◌}
use Rattle.std.proofs.Common.{length, ℤ, Result, Ok, Err, refl, sym, ap, ◌∙◌, arith, nat_lt, append_assoc}
use Rattle.std.specs.Prelude.{if◌then◌else◌}
use Rattle.std.specs.Option.{ok_or}
use Rattle.std.specs.Cmp.Rules.{signed_items}
use Rattle.std.proofs.lemmas.Bool.Decides.{nat_tests}
use Rattle.serde_json.specs.Data.{Data}
use Rattle.std.proofs.lemmas.List.{length_push}
use Rattle.std.proofs.lemmas.List.Elements.{All-push}
use Rattle.std.proofs.lemmas.List.Sums.{sum_by-cons, sum_by_push}
use Rattle.ring_parity.specs.Rings.{IsLinearRing}
use Rattle.polygon_query.specs.declared.geo_json.GeoFault.{GeoFault}
use Rattle.polygon_query.specs.declared.geo_json.GeoFault.TheVariants.{NotWhole, TooFew, NotClosed}
use Rattle.polygon_query.specs.GeoJson.{and_then, elements, position, positions, is_closed, linear, ring_of, rings_of, count_positions}

-- what was read already, before what is still to read
abbrev pub after : {A : Type 0} → List A → Result (List A) GeoFault → Result (List A) GeoFault
after done rest = and_then (λ xs. Ok (done ++ xs)) rest

after_more : {A : Type 0} (done : List A) (x : A) (rest : Result (List A) GeoFault)
    → after done (and_then (λ xs. Ok (x ∷ xs)) rest) ≡ after (done ++ x ∷ []) rest
after_more done x (Ok xs) = ap Ok (sym (append_assoc done (x ∷ []) xs))
after_more done x (Err e) = refl

-- what is read was read in two steps
and_then_ok : {A B : Type 0} (f : A → Result B GeoFault) (r : Result A GeoFault) (y : B) → and_then f r ≡ Ok y → (x : A) × (r ≡ Ok x) × (f x ≡ Ok y)
and_then_ok f (Ok x) y h = (x, refl, h)
and_then_ok f (Err e) y h = cc

positions_length : (ring number : ℕ) (ds : List Data) (ps : List (List ℤ)) → positions ring number ds ≡ Ok ps → length ps ≡ length ds
positions_length ring number [] ps h = let e : [] ≡ ps = cc in ap length (sym e)
positions_length ring number (d ∷ ds) ps h =
    let first = and_then_ok (λ p. and_then (λ qs. Ok (p ∷ qs)) (positions ring (number + 1) ds)) (ok_or (position d) (NotWhole ring number)) ps h in
    let rest = and_then_ok (λ qs. Ok (first.0 ∷ qs)) (positions ring (number + 1) ds) ps first.2 in
    let e : first.0 ∷ rest.0 ≡ ps = cc in
    let same : length rest.0 ≡ length ds = positions_length ring (number + 1) ds rest.0 rest.1 in
    ap length (sym e) ∙ omega arith

chosen : (short closed : Bool) (ring : ℕ) (ps r : List (List ℤ))
    → (if short then Err (TooFew ring) else (if closed then Ok ps else Err (NotClosed ring))) ≡ Ok r
    → (short ≡ false) × (closed ≡ true) × (ps ≡ r)
chosen true closed ring ps r h = cc
chosen false true ring ps r h = (refl, refl, cc)
chosen false false ring ps r h = cc

linear_ok : (ring : ℕ) (ps r : List (List ℤ)) → linear ring ps ≡ Ok r → IsLinearRing ps × (ps ≡ r)
linear_ok ring ps r h =
    let c = chosen (nat_lt (length ps) 4) (is_closed ps) ring ps r h in
    let enough : nat_lt (length ps) 4 ≡ false = c.0 in
    (record { enough = grind (arith, nat_tests); closed = (signed_items _ _).0 c.1 }, c.2)

-- a ring that is read is linear, and has all positions
pub ring_ok : (ring : ℕ) (ds : List Data) (r : List (List ℤ)) → ring_of ring ds ≡ Ok r → IsLinearRing r × (length r ≡ length ds)
ring_ok ring ds r h =
    let read = and_then_ok (linear ring) (positions ring 0 ds) r h in
    let told = linear_ok ring read.0 r read.2 in
    (rw (← told.1) told.0, rw (← told.1) (positions_length ring 0 ds read.0 read.1))

-- some rings were read, and those that are left are still to read. Each has four positions or more, so they are few
pub record AreRead (all : List Data) (done : List (List (List ℤ))) (left : List Data) : Type 0 where
  pub read : after done (rings_of (length done) left) ≡ rings_of 0 all
  pub linear : All IsLinearRing done
  pub counted : sum_by length done + count_positions left ≡ count_positions all
  pub enough : 4 * length done ≤ sum_by length done

pub AreRead-more : (all : List Data) (done : List (List (List ℤ))) (d : Data) (left : List Data) (r : List (List ℤ)) → ring_of (length done) (elements d) ≡ Ok r
    → AreRead all done (d ∷ left) → AreRead all (done ++ r ∷ []) left
AreRead-more all done d left r h a =
    let ring = ring_ok (length done) (elements d) r h in
    let enough : 4 ≤ length r = ring.0.enough in
    let same : length r ≡ length (elements d) = ring.1 in
    let first : count_positions (d ∷ left) ≡ length (elements d) + count_positions left = sum_by-cons (λ x. length (elements x)) d left in
    let last : sum_by length (done ++ r ∷ []) ≡ sum_by length done + length r = sum_by_push length done r in
    let long : length (done ++ r ∷ []) ≡ length done + 1 = length_push done r in
    record {
      read = rw (long, ← after_more done r (rings_of (length done + 1) left)) (rw h at a.read);
      linear = All-push IsLinearRing done r a.linear ring.0;
      counted = omega (arith, a.counted);
      enough = omega (arith, a.enough);
    }
