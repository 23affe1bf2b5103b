use Rattle.std.proofs.Common.{[], ◌∙◌, ℕ, List, length, map, sym, ap, true, arith}
use Rattle.std.proofs.lemmas.List.{append-nil, length-append}
use Rattle.point_codec.specs.Points.{Item}
use Rattle.bkd_reader.specs.Hits.{hits_in}
use Rattle.bkd_reader.proofs.HitLemmas.{appended_live}
use Rattle.bkd_reader.proofs.inside.push_live.Goals as goal

pub keep_live-requires : goal.keep_live-requires
keep_live-requires g c =
    let long = c.len-before.ensures ∙ c.args.hits.now.ok.0 in
    let docs : List ℕ = map (λ (x : Item). x.doc) c.args.leaf.now in
    omega (arith, long, ap length c.in_ok-push_numbers.ensures.ok, length-append c.args.hits.now.items docs)

pub returns-in_err-push_numbers-clause-begins : goal.returns-in_err-push_numbers-clause-begins
returns-in_err-push_numbers-clause-begins g c = ([], c.in_err-push_numbers.ensures.err ∙ sym (append-nil c.args.hits.now.items))

pub returns-clause-begins : goal.returns-clause-begins
returns-clause-begins g c = (
  hits_in (λ _. true) c.args.live.now c.args.leaf.now,
  appended_live c.args.live.now c.args.hits.now.items _ _ _ c.args.leaf.now (c.len-before.ensures ∙ c.args.hits.now.ok.0)
      c.in_ok-push_numbers.ensures.ok c.keep_live.ensures,
)

pub returns-clause-hits : goal.returns-clause-hits
returns-clause-hits g c =
    appended_live c.args.live.now c.args.hits.now.items _ _ _ c.args.leaf.now (c.len-before.ensures ∙ c.args.hits.now.ok.0)
    c.in_ok-push_numbers.ensures.ok c.keep_live.ensures
