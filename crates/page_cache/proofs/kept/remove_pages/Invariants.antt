use Rattle.std.proofs.Common.{◌≡◌, ◌++◌, ◌-◌, filter, take, drop, length}
use Rattle.page_cache.specs.Keys.{is_of_other}
use Rattle.page_cache.proofs.kept.remove_pages.Given as goal

abbrev pub invariant-turns : goal.invariant-turns
invariant-turns l = record {
  whole : l.kept ≡ length l.initial.pages.entries;
  turned : l.pages.entries
      ≡ filter (λ e. is_of_other l.id e.0) (drop (l.kept - l.counter) l.initial.pages.entries) ++ take (l.kept - l.counter) l.initial.pages.entries;
  room : l.pages.cap ≡ l.initial.pages.cap;
}
