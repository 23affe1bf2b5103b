use Rattle.std.proofs.Common.{◌≡◌, ◌≤◌, ◌+◌, ◌-◌, ◌*◌, drop, vec_len, vec_capacity}
use Rattle.page_cache.proofs.Sealed.{PutSoFar}
use Rattle.page_cache.proofs.bodies.put_pages.Given as goal

abbrev pub invariant-pages : goal.invariant-pages
invariant-pages l = record {
  rest : l.rest ≡ drop (4064 * l.i) l.body;
  room : vec_len l.out + 4096 * (l.pages - l.i) ≤ vec_capacity l.out;
  put : PutSoFar l.name l.first l.body l.i l.initial.out.items l.out.items;
}
