-- `stands::may_stand` meets its contract: a size out of bounds is not the list's own; one within them is, and the rest goes kind by kind. Assumes nothing.
use mathlib.Core.Path.{◌≡◌, subst, ◌∙◌}
use mathlib.Core.Bool.{true}
use native.Mathlib.Omega.{arith}
use Rattle.le.specs.Arena.{arena_words}
use Rattle.machine.specs.declared.ListKind.{ListKind}
use Rattle.machine.specs.declared.ListKind.TheVariants.{Cache, Fast, Bin}
use Rattle.audit_lists.specs.Owns.{own_size}
use Rattle.audit_lists.specs.OwnsLaws.{own-between, own_below, own-above}
use Rattle.audit_lists.specs.StandWays.{may_stand-by, own-not, own-cache, own-cache-full, own-fast}
use Rattle.audit_lists.proofs.stands.may_stand.Goals as goal

pub returns-then-s-o : goal.returns-then-s-o
returns-then-s-o c v r k =
    own-not v (arena_words c.args.a.now) r c.args.p.0 c.args.n c.args.c.0 c.args.s c.requires.0.size c.args.k
    (own_below c.args.k c.args.o.least c.args.o.most c.args.s c.requires.1 (omega arith) c.if-s-o.true)

pub returns-then-o-s : goal.returns-then-o-s
returns-then-o-s c v r k =
    own-not v (arena_words c.args.a.now) r c.args.p.0 c.args.n c.args.c.0 c.args.s c.requires.0.size c.args.k
    (own-above c.args.k c.args.o.least c.args.o.most c.args.s c.requires.1 (omega arith) c.if-o-s.true)

pub key_ok-requires : goal.key_ok-requires
key_ok-requires c = let s = c.requires.0 in (omega (arith, s.even), omega (arith, s.inside))

pub bin_may_stand-requires : goal.bin_may_stand-requires
bin_may_stand-requires c =
    let o = own-between c.args.k c.args.o.least c.args.o.most c.args.s c.requires.1 (omega arith) c.if-s-o.false c.if-o-s.false in
    (c.requires.0, (subst (λ (z : ListKind). own_size z c.args.s ≡ true) c.in-Bin.is o))

pub returns-then-n-lt-CACHE_ROOM : goal.returns-then-n-lt-CACHE_ROOM
returns-then-n-lt-CACHE_ROOM c v r k =
    let o = own-between c.args.k c.args.o.least c.args.o.most c.args.s c.requires.1 (omega arith) c.if-s-o.false c.if-o-s.false in
    may_stand-by v c.args.k (Cache _) (arena_words c.args.a.now) r c.args.p.0 c.args.n c.args.c.0 _ c.in-Cache.is
    (c.key_ok.ensures v r k ∙ own-cache v (arena_words c.args.a.now) r c.args.p.0 c.args.n c.args.c.0 c.args.s c.requires.0.size _ (subst (λ (z : ListKind). own_size z c.args.s ≡ true) c.in-Cache.is o) c.if-n-lt-CACHE_ROOM.true)

pub returns-else-n-lt-CACHE_ROOM : goal.returns-else-n-lt-CACHE_ROOM
returns-else-n-lt-CACHE_ROOM c v r k =
    let o = own-between c.args.k c.args.o.least c.args.o.most c.args.s c.requires.1 (omega arith) c.if-s-o.false c.if-o-s.false in
    may_stand-by v c.args.k (Cache _) (arena_words c.args.a.now) r c.args.p.0 c.args.n c.args.c.0 _ c.in-Cache.is
    (own-cache-full v (arena_words c.args.a.now) r c.args.p.0 c.args.n c.args.c.0 c.args.s c.requires.0.size _ (subst (λ (z : ListKind). own_size z c.args.s ≡ true) c.in-Cache.is o) c.if-n-lt-CACHE_ROOM.false)

pub returns-in-Fast : goal.returns-in-Fast
returns-in-Fast c v r k =
    let o = own-between c.args.k c.args.o.least c.args.o.most c.args.s c.requires.1 (omega arith) c.if-s-o.false c.if-o-s.false in
    may_stand-by v c.args.k (Fast _) (arena_words c.args.a.now) r c.args.p.0 c.args.n c.args.c.0 _ c.in-Fast.is
    (own-fast v (arena_words c.args.a.now) r c.args.p.0 c.args.n c.args.c.0 c.args.s c.requires.0.size _ (subst (λ (z : ListKind). own_size z c.args.s ≡ true) c.in-Fast.is o))

pub returns-in-Bin : goal.returns-in-Bin
returns-in-Bin c v r k =
    may_stand-by v c.args.k (Bin _) (arena_words c.args.a.now) r c.args.p.0 c.args.n c.args.c.0 _ c.in-Bin.is (c.bin_may_stand.ensures v r)
