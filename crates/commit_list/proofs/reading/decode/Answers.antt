use Rattle.std.proofs.Common.{refl, sym, subst}
use Rattle.commit_list.specs.Commits.{AreListed}
use Rattle.commit_list.proofs.Bodies.{spelt, in_range, list_long, listed_so, may_stand, spells_so}
use Rattle.commit_list.proofs.reading.decode.Goals as goal

pub returns-in_default : goal.returns-in_default
returns-in_default c = λ d p. let s = spelt c.args.bytes.now d p in c.in_default.ensures.none _ _ s.spelling

pub returns-then-not-is_in_range : goal.returns-then-not-is_in_range
returns-then-not-is_in_range c = λ d p.
    absurd (let fine =
    c.if-not-is_in_range.ensures.1 (in_range c.args.bytes.now c.in-Some.head c.in-Some.rest.now d c.in-Some.ensures.fits c.in-Some.ensures.some p) in cc)

pub returns-in_default-2 : goal.returns-in_default-2
returns-in_default-2 c = λ d p.
    (rw c.in_default-2.is at c.in_ok-listed.ensures)
    (list_long c.args.bytes.now c.in-Some.head c.in-Some.rest.now d c.in-Some.ensures.fits c.in-Some.ensures.some p)

pub returns-then-not-are_listed : goal.returns-then-not-are_listed
returns-then-not-are_listed c = λ d p.
    let list = rw c.in-Some-2.is at c.in_ok-listed.ensures in
    let so = listed_so c.args.bytes.now c.in-Some.head c.in-Some.rest.now c.in-Some-2.listed.items d c.in-Some.ensures.fits c.in-Some.ensures.some list p in
    absurd (let fine = c.if-not-are_listed.ensures.1 (subst (AreListed c.in-Some.head.next_segment) (sym c.as_slice.ensures.value) so) in cc)

pub new-requires : goal.new-requires
new-requires c =
    let list = rw c.in-Some-2.is at c.in_ok-listed.ensures in
    let are = subst (AreListed c.in-Some.head.next_segment) c.as_slice.ensures.value (c.if-not-are_listed.ensures.0 refl) in
    may_stand c.in-Some.head c.in-Some.rest.now c.in-Some-2.listed.items (c.if-not-is_in_range.ensures.0 refl) list are

pub returns : goal.returns
returns c =
    let list = rw c.in-Some-2.is at c.in_ok-listed.ensures in
    let are = subst (AreListed c.in-Some.head.next_segment) c.as_slice.ensures.value (c.if-not-are_listed.ensures.0 refl) in
    rw c.new.ensures
    (spells_so c.args.bytes.now c.in-Some.head c.in-Some.rest.now c.in-Some-2.listed.items c.in-Some.ensures.fits c.in-Some.ensures.some
    (c.if-not-is_in_range.ensures.0 refl) list are)
