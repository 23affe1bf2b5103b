use Rattle.std.proofs.Common.{◌≡◌, ◌+◌, ◌-◌, ◌≤◌, ◌++◌, List, length, take, drop, true, false, eqb, ap, sym, subst, ◌∙◌, arith}
use Rattle.std.specs.List.{list_any, remove}
use Rattle.std.proofs.lemmas.List.{take_all, drop_all, append-nil}
use Rattle.std.proofs.lemmas.List.Edits.{length-remove}
use Rattle.documents.specs.Entries.{is_among}
use Rattle.segment_file.specs.Heads.{Head}
use Rattle.segment_view.specs.LiveSegments.{LiveSegment, parts_of, parts_but}
use Rattle.segment_view.proofs.Beside.{length_parts, parts-remove}
use Rattle.segment_view.proofs.Stepwise.{out_place, out_room, out_kept, out_taken}
use Rattle.segment_view.proofs.pairs.remove_pairs.Goals as goal

pub loop-i-init : goal.loop-i-init
loop-i-init g c =
    let parts = parts_of c.args.heads.now.items c.args.lives.now.items in
    let n = c.len-i.result in
    let all : length parts ≤ n =
    omega (arith, length_parts c.args.heads.now.items c.args.lives.now.items c.requires.same, c.len-i.ensures, c.args.heads.now.ok.0) in
    record {
      same = c.requires.same;
      parts = sym (ap (λ (ps : List LiveSegment). ps ++ parts_but c.args.ids.now (drop n parts)) (take_all n parts all)
          ∙ ap (λ (ps : List LiveSegment). parts ++ parts_but c.args.ids.now ps) (drop_all n parts all) ∙ append-nil parts);
    }

pub index-requires : goal.index-requires
index-requires g c =
    let parts = parts_of c.args.heads.now.items c.args.lives.now.items in
    let long = length_parts c.args.heads.now.items c.args.lives.now.items c.requires.same in
    let now = length_parts c.loop-i.heads.items c.loop-i.lives.items c.loop-i.invariant.same in
    let room = out_room c.args.ids.now parts (parts_of c.loop-i.heads.items c.loop-i.lives.items) c.loop-i.i c.loop-i.invariant.parts
    (omega (arith, long, c.loop-i.auto.i, c.len-i.ensures, c.args.heads.now.ok.0)) in
    omega (arith, room, now, c.loop-i-test.true, c.loop-i.heads.ok.0)

pub remove-requires : goal.remove-requires
remove-requires g c =
    let parts = parts_of c.args.heads.now.items c.args.lives.now.items in
    let long = length_parts c.args.heads.now.items c.args.lives.now.items c.requires.same in
    let now = length_parts c.loop-i.heads.items c.loop-i.lives.items c.loop-i.invariant.same in
    let room = out_room c.args.ids.now parts (parts_of c.loop-i.heads.items c.loop-i.lives.items) c.loop-i.i c.loop-i.invariant.parts
    (omega (arith, long, c.loop-i.auto.i, c.len-i.ensures, c.args.heads.now.ok.0)) in
    omega (arith, room, now, c.loop-i-test.true, c.loop-i.heads.ok.0)

pub loop-i-preserved-then-not-contains : goal.loop-i-preserved-then-not-contains
loop-i-preserved-then-not-contains g c =
    let ids = c.args.ids.now in
    let parts = parts_of c.args.heads.now.items c.args.lives.now.items in
    let heads = c.loop-i.heads.items in
    let lives = c.loop-i.lives.items in
    let i = c.loop-i.i - 1 in
    let next : c.loop-i.i ≡ i + 1 = omega (arith, c.loop-i-test.true) in
    let now = subst (λ n. parts_of heads lives ≡ take n parts ++ parts_but ids (drop n parts)) next c.loop-i.invariant.parts in
    let long = length_parts c.args.heads.now.items c.args.lives.now.items c.requires.same in
    let at = out_place ids parts heads lives i c.index.result.now c.loop-i.invariant.same now
    (omega (arith, long, next, c.loop-i.auto.i, c.len-i.ensures, c.args.heads.now.ok.0)) c.index.ensures in
    let keep : is_among ids at.part.head.id ≡ false =
    ap (λ n. list_any (λ m. eqb m n) ids) (ap (λ (h : Head). h.id) at.has ∙ sym c.id.ensures) ∙ sym c.contains.ensures.value ∙ c.if-not-contains.true in
    record { same = c.loop-i.invariant.same; parts = now ∙ out_kept ids parts i at.part at.is keep }

pub loop-i-preserved : goal.loop-i-preserved
loop-i-preserved g c =
    let ids = c.args.ids.now in
    let parts = parts_of c.args.heads.now.items c.args.lives.now.items in
    let heads = c.loop-i.heads.items in
    let lives = c.loop-i.lives.items in
    let same = c.loop-i.invariant.same in
    let i = c.loop-i.i - 1 in
    let next : c.loop-i.i ≡ i + 1 = omega (arith, c.loop-i-test.true) in
    let now = subst (λ n. parts_of heads lives ≡ take n parts ++ parts_but ids (drop n parts)) next c.loop-i.invariant.parts in
    let long = length_parts c.args.heads.now.items c.args.lives.now.items c.requires.same in
    let within = length_parts heads lives same in
    let room = out_room ids parts (parts_of heads lives) (i + 1) now (omega (arith, long, next, c.loop-i.auto.i, c.len-i.ensures, c.args.heads.now.ok.0)) in
    let at = out_place ids parts heads lives i c.index.result.now same now (omega (arith, long, next, c.loop-i.auto.i, c.len-i.ensures, c.args.heads.now.ok.0))
    c.index.ensures in
    let gone : is_among ids at.part.head.id ≡ true =
    ap (λ n. list_any (λ m. eqb m n) ids) (ap (λ (h : Head). h.id) at.has ∙ sym c.id.ensures) ∙ sym c.contains.ensures.value ∙ c.if-not-contains.false in
    record {
      same =
          let a = ap length c.remove.ensures.items in
          let b = ap length c.remove-in-loop-i.ensures.items in
          let m = length-remove heads i (omega (arith, room, within)) in
          let n = length-remove lives i (omega (arith, room, within, same)) in
          omega (arith, a, b, m, n, same);
      parts = ap (λ (hs : List Head). parts_of hs c.remove-in-loop-i.new.self.items) c.remove.ensures.items
          ∙ ap (parts_of (remove heads i)) c.remove-in-loop-i.ensures.items
          ∙ parts-remove heads lives i same
          ∙ ap (λ (ps : List LiveSegment). remove ps i) now
          ∙ out_taken ids parts i at.part at.is gone;
    }

pub returns-clause-rest : goal.returns-clause-rest
returns-clause-rest g c =
    let parts = parts_of c.args.heads.now.items c.args.lives.now.items in
    let done : c.loop-i.i ≡ 0 = omega (arith, c.loop-i-test.false) in
    subst (λ n. parts_of c.loop-i.heads.items c.loop-i.lives.items ≡ take n parts ++ parts_but c.args.ids.now (drop n parts)) done c.loop-i.invariant.parts
