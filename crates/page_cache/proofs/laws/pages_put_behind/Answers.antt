use Rattle.std.proofs.Common.{length}
use Rattle.page_cache.specs.Bodies.{pages_for}
use Rattle.page_cache.proofs.PageRuns.{pages_behind, payloads_back, pages_front, payloads_stay}
use Rattle.page_cache.proofs.laws.pages_put_behind.Goals as goal

pub returns-clause-pages : goal.returns-clause-pages
returns-clause-pages c = λ name first body old bytes len put. pages_behind name first (pages_for (length body)) old bytes len put.pages

pub returns-clause-payloads : goal.returns-clause-payloads
returns-clause-payloads c = λ name first body old bytes len put. payloads_back old bytes first (pages_for (length body)) len

pub returns-clause-before : goal.returns-clause-before
returns-clause-before c = pages_front

pub returns-clause-same : goal.returns-clause-same
returns-clause-same c = payloads_stay
