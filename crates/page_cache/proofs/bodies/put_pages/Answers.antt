use Rattle.std.proofs.Common.{refl, arith, ◌∙◌, ap, ℕ, take, drop}
use Rattle.page_cache.proofs.Sealed.{put_none, put_more, rest_more}
use Rattle.page_cache.proofs.bodies.put_pages.Goals as goal

pub pages-init : goal.pages-init
pages-init c = record {
  rest = refl;
  room = omega (arith, c.in_ok-reserve.ensures.ok);
  put = put_none c.args.name.now c.args.first c.args.body.now c.reserve.new.self.items;
}

pub pages-preserved : goal.pages-preserved
pages-preserved c = record {
  rest = rest_more c.args.body.now c.pages.rest.now c.split_at.result.1.now c.pages.i c.pages.invariant.rest
      (c.split_at.ensures.back ∙ ap (λ (n : ℕ). drop n c.pages.rest.now) c.min.ensures);
  room = omega arith;
  put = put_more c.args.name.now c.args.first c.args.body.now c.pages.rest.now c.split_at.result.0.now c.pages.i c.reserve.new.self.items c.pages.out.items
      c.put_page.new.out.items
      c.pages-test.true c.pages.invariant.rest (c.split_at.ensures.front ∙ ap (λ (n : ℕ). take n c.pages.rest.now) c.min.ensures) c.pages.invariant.put
      c.put_page.ensures.page;
}
