use Rattle.std.proofs.Common.{◌≡◌, ◌+◌, ◌<◌, ◌∙◌, ℕ, List, [], ◌∷◌, ◌++◌, get_or, length, take, drop, ap, sym, arith}
use Rattle.std.proofs.lemmas.Bool.{eqb-true, le-ltb, lt-ltb}
use Rattle.std.proofs.lemmas.List.{take-append-drop, take_all, take_more}
use Rattle.arrayvec.specs.ArrayVec.{ArrayVec}
use Rattle.documents.specs.Entries.{is_among}
use Rattle.segment_set.proofs.Places.{firsts, place_again, place_more, place_past, places_full, room_left}
use Rattle.segment_set.proofs.choosing.first_places.Goals.{then-position-count+then-not-contains, else-position-count}
use Rattle.segment_set.proofs.choosing.first_places.Goals.{else-position-count-via-then-position-count+else-not-contains}
use Rattle.segment_set.proofs.choosing.first_places.Goals.{else-position-count-via-else-position-count}
use Rattle.segment_set.proofs.choosing.first_places.Goals as goal

pub returns-then-is_full : goal.returns-then-is_full
returns-then-is_full c =
    let positions = c.args.positions.now in
    let seen = take c.loop-position.position-index positions in
    let full : length c.loop-position.places.items ≡ 64 = eqb-true (length c.loop-position.places.items) 64 (sym c.if-is_full.ensures.value) in
    c.loop-position.invariant
    ∙ places_full c.args.count seen (drop c.loop-position.position-index positions) (ap length (sym c.loop-position.invariant) ∙ full)
    ∙ ap (firsts c.args.count) (take-append-drop c.loop-position.position-index positions)

pub loop-position-preserved : goal.loop-position-preserved
loop-position-preserved c =
    let positions = c.args.positions.now in
    let count = c.args.count in
    let i = c.loop-position.position-index in
    let p = get_or positions i 0 in
    let seen = take i positions in
    let was = c.loop-position.invariant in
    let more : take (i + 1) positions ≡ seen ++ p ∷ [] = take_more positions i 0 c.loop-position-test.true in
    let room : length (firsts count seen) < 64 =
    omega (arith, ap length was, room_left (length c.loop-position.places.items) 64 (sym c.if-is_full.ensures.value) c.is_full.ensures.fits) in
    elim c.if-position-count.branch [
      | then-position-count+then-not-contains w ↦
          let there : w.contains.result ≡ is_among (firsts count seen) p =
          w.contains.ensures.value ∙ ap (λ (ns : List ℕ). is_among ns p) (w.deref.ensures.0 ∙ was) in
          ap (λ (v : ArrayVec ℕ). v.items) w.places-is
          ∙ w.push.ensures.items
          ∙ ap (λ (ns : List ℕ). ns ++ p ∷ []) was
          ∙ place_more count seen p room (lt-ltb p count w.if-position-count.true) (sym there ∙ w.if-not-contains.true)
          ∙ ap (firsts count) (sym more)
      | else-position-count w ↦
          ap (λ (v : ArrayVec ℕ). v.items) w.places-is
          ∙ was
          ∙ elim w.else-position-count.branch [
            | else-position-count-via-then-position-count+else-not-contains v ↦
                let there : v.contains.result ≡ is_among (firsts count seen) p =
                v.contains.ensures.value ∙ ap (λ (ns : List ℕ). is_among ns p) (v.deref.ensures.0 ∙ was) in
                place_again count seen p room (lt-ltb p count v.if-position-count.true) (sym there ∙ v.if-not-contains.false)
            | else-position-count-via-else-position-count v ↦ place_past count seen p (le-ltb p count v.if-position-count.false)
          ]
          ∙ ap (firsts count) (sym more)
    ]

pub returns : goal.returns
returns c = c.loop-position.invariant ∙ ap (firsts c.args.count) (take_all c.loop-position.position-index c.args.positions.now c.loop-position-test.false)
