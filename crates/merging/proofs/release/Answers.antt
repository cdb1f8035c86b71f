-- A page is freeable exactly if it may be released.
use Rattle.std.proofs.Common.{ℕ, ◌^◌, ◌<◌, get_or, ◌∙◌, arith}
use Rattle.layout.specs.declared.Region.{Region}
use Rattle.layout.specs.View.{view_of}
use Rattle.layout.proofs.Lay.{view_fits}
use Rattle.merging.proofs.Freeing.{needed_least, freeable_is, freed_is, counted_is}
use Rattle.merging.proofs.release.Goals as goal

pub returns : goal.returns
returns c =
    λ ps e h.
    let a = c.args in
    let few = c.least-fewest.result in
    let v = view_of a.s a.mem.now in
    let fits : (p : ℕ) → get_or (v Region.PageReplaced) p 0 < 2 ^ 32 = view_fits a.s a.mem.now (λ k. grind arith) Region.PageReplaced in
    let q = freeable_is ps few v (λ m k. rw c.least-fewest.ensures (needed_least ps a.scans e h m k)) fits in
    (c.free_pages.ensures.0 ∙ counted_is a.s ps few v c.requires.proper.0 q, c.free_pages.ensures.1 ∙ freed_is a.s ps few v c.requires.proper.0 q)
