-- `put_cache`: the two words written are the only ones that differ, so the bytes are those of the words. Assumes nothing.
use mathlib.Core.Path.{ap, ◌∙◌}
use mathlib.Core.List.{List}
use Prim.Native.Nat.{ℕ, ◌*◌}
use lib.ListN.{get_or}
use Rattle.le.specs.Number.{put}
use Rattle.sizes.specs.Layout.{cache_head, cache_count}
use Rattle.record_words.specs.CacheOnly.{cache-only-bytes}
use Rattle.record_words.proofs.put_cache.Goals as goal

pub returns : goal.returns
returns c =
    let k = c.args.k in
    let r = c.args.r.now in
    let word = c.type_inv.r in
    cache-only-bytes k c.args.control.now r _ c.requires.0 c.requires.2 c.requires.3 (word (cache_head k)).fits (word (cache_count k)).fits
    (λ i. (c.type_inv.control i).fits)
    (c.write-2.ensures ∙ ap (λ (u : List ℕ). put 4 u (4 * cache_count k) (get_or r (cache_count k) 0)) c.write.ensures)
