-- Each line is told after those before it, with the first of the replies that are left where it asks.
use Rattle.std.proofs.Common.{◌≡◌, ℕ, List, Some, ap, arith, length, map, refl, ◌∙◌}
use Rattle.std.proofs.lemmas.Bool.Decides.{nat_tests}
use Rattle.std.proofs.lemmas.List.{take_rest}
use Rattle.std.specs.List.{flat_map}
use Rattle.script_lang.specs.Lines.{lines_of}
use Rattle.run_status.proofs.Ending.{at_most_one, refused_more}
use Rattle.run_status.proofs.Telling.{stage_on}
use Rattle.batch_queries.specs.Queries.{query_in}
use Rattle.batch_queries.specs.Batched.{TellsBatch, reply_text}
use Rattle.batch_queries.proofs.Lines.{no_lines}
use Rattle.batch_queries.proofs.Tells.{all_told, asks_byte, left_counted, replies_left}
use Rattle.batch_queries.proofs.telling.tell_all.Goals as goal

pub lines-preserved : goal.lines-preserved
lines-preserved g c =
    let D = g.row.D in
    let line = c.first_line.result.0.now in
    let behind : List (List ℕ) = lines_of c.first_line.result.1.now in
    let long = asks_byte c.in_ok-told.told.asks (length (query_in D line)) c.from.result c.in_ok-told.ensures.asks c.from.ensures in
    let split = ap (λ (ls : List (List ℕ)). flat_map (query_in D) ls) c.first_line.ensures.line in
    record {
      going = λ i dims said.
          let now = c.lines.invariant.left i dims said in
          let told = c.in_ok-told.ensures.told i dims (flat_map (query_in D) behind) (now ∙ ap (map (reply_text i)) split) in
          stage_on _ (TellsBatch (Some i)) _ _ _ line told.told (c.lines.invariant.going i dims said) c.first_line.ensures.line refl told.tells
          (refused_more c.lines.refused c.in_ok-told.told.refused told.told.refused c.from-refused.result told.refused c.from-refused.ensures) (λ t. told.text);
      left = λ i dims said.
          rw (take_rest c.lines.left.now c.from.result)
          (replies_left (reply_text i) c.lines.left.now (query_in D line) (flat_map (query_in D) behind) _ c.from.result long split
          (c.lines.invariant.left i dims said));
      each = rw (take_rest c.lines.left.now c.from.result)
          (left_counted c.lines.left.now (query_in D line) (flat_map (query_in D) behind) _ c.from.result long split c.lines.invariant.each);
      room = omega (arith, c.lines.invariant.room, c.first_line.ensures.shorter);
      counted = omega (arith, c.lines.invariant.counted, at_most_one c.in_ok-told.told.refused c.from-refused.result c.from-refused.ensures);
    }

pub returns : goal.returns
returns g c = λ i dims said.
    let none : length c.lines.rest.now ≡ 0 = grind (arith, nat_tests) in
    all_told (TellsBatch (Some i)) (lines_of c.args.lines.now) (lines_of c.lines.rest.now) c.lines.number c.lines.refused
    c.new-bytes.result.items c.lines.bytes.items
    (c.lines.invariant.going i dims said) (no_lines c.lines.rest.now none) c.new-bytes.ensures.items
