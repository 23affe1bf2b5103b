use Rattle.std.proofs.Common.{arith}
use Rattle.std.proofs.lemmas.Result.{on_ok_weaker}
use Rattle.byte_cursor.proofs.Vints.{appends_vint, vint_1, vint_2, vint_3, vint_4, vint_5}
use Rattle.byte_cursor.proofs.puts.put_vint.Goals as goal

pub returns-then-v-clause-ok : goal.returns-then-v-clause-ok
returns-then-v-clause-ok c =
    on_ok_weaker c.put_slice.result (λ e. appends_vint _ _ _ c.args.v (vint_1 _ c.args.v (omega arith) (omega arith)) e) c.put_slice.ensures.ok

pub returns-then-v-2-clause-ok : goal.returns-then-v-2-clause-ok
returns-then-v-2-clause-ok c =
    on_ok_weaker c.put_slice-then-v-2.result
    (λ e. appends_vint _ _ _ c.args.v (vint_2 _ _ c.args.v (omega arith) (omega arith) c.group.ensures (omega arith)) e) c.put_slice-then-v-2.ensures.ok

pub returns-then-v-3-clause-ok : goal.returns-then-v-3-clause-ok
returns-then-v-3-clause-ok c =
    on_ok_weaker c.put_slice-then-v-3.result
    (λ e. appends_vint _ _ _ c.args.v (vint_3 _ _ _ c.args.v (omega arith) (omega arith) c.group-then-v-3.ensures c.group-then-v-3-2.ensures (omega arith)) e)
    c.put_slice-then-v-3.ensures.ok

pub returns-then-v-4-clause-ok : goal.returns-then-v-4-clause-ok
returns-then-v-4-clause-ok c =
    on_ok_weaker c.put_slice-then-v-4.result
    (λ e. appends_vint _ _ _ c.args.v
    (vint_4 _ _ _ _ c.args.v (omega arith) (omega arith) c.group-then-v-4.ensures c.group-then-v-4-2.ensures c.group-then-v-4-3.ensures (omega arith)) e)
    c.put_slice-then-v-4.ensures.ok

pub returns-else-v-4-clause-ok : goal.returns-else-v-4-clause-ok
returns-else-v-4-clause-ok c =
    on_ok_weaker c.put_slice-else-v-4.result
    (λ e. appends_vint _ _ _ c.args.v
    (vint_5 _ _ _ _ _ c.args.v (omega arith) (omega arith) c.group-else-v-4.ensures c.group-else-v-4-2.ensures c.group-else-v-4-3.ensures
    c.group-else-v-4-4.ensures (omega arith)) e) c.put_slice-else-v-4.ensures.ok
