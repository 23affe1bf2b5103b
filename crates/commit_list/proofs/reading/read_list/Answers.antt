use Rattle.std.proofs.Common.{arith, sym, ap, subst, ◌∙◌, ◌≡◌, length, ℕ, eqb-true, eq-eqb}
use Rattle.byte_cursor.specs.Cursor.{cursor_rest}
use Rattle.commit_list.specs.Layout.{SpellsList}
use Rattle.commit_list.proofs.Lists.{reads-none, reads-more, reads-length, reads-all, none_left}
use Rattle.commit_list.proofs.reading.read_list.Goals as goal

pub loop-i-init : goal.loop-i-init
loop-i-init c = reads-none c.args.bytes.now (cursor_rest c.new-cursor.result) c.in_ok-listed.listed.items c.new-cursor.ensures c.in_ok-listed.ensures.items

pub loop-i-preserved : goal.loop-i-preserved
loop-i-preserved c =
    reads-more c.args.bytes.now (cursor_rest c.loop-i.cursor) (cursor_rest c.take_listed.new.cursor) c.loop-i._i c.loop-i.listed.items c.push.new.self.items
    c.in-Some.s
    c.in-Some.ensures.fits c.in-Some.ensures.taken c.in_ok-push.ensures.items c.loop-i.invariant

pub returns-in_default : goal.returns-in_default
returns-in_default c = λ e.
    let short = c.in_default.ensures.short in
    let long = reads-length c.args.bytes.now (cursor_rest c.loop-i.cursor) c.loop-i._i c.loop-i.listed.items c.loop-i.invariant in
    omega (arith, short, long)

pub returns-then-not-is_empty : goal.returns-then-not-is_empty
returns-then-not-is_empty c = λ e.
    let long = reads-length c.args.bytes.now (cursor_rest c.loop-i.cursor) c.loop-i._i c.loop-i.listed.items c.loop-i.invariant in
    let none : length c.rest.result.now ≡ 0 = omega (arith, long, ap length c.rest.ensures) in
    let test = eq-eqb (length c.rest.result.now) 0 none in
    let other = c.if-not-is_empty.ensures in
    cc

pub returns : goal.returns
returns c =
    let all : c.loop-i._i ≡ c.args.count = omega arith in
    subst (λ (n : ℕ). SpellsList c.args.bytes.now n c.loop-i.listed.items) all
    (reads-all c.args.bytes.now (cursor_rest c.loop-i.cursor) c.loop-i._i c.loop-i.listed.items
    (sym c.rest.ensures ∙ none_left c.rest.result.now (eqb-true _ _ (sym c.if-not-is_empty.ensures))) c.loop-i.invariant)
