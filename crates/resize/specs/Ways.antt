-- Each way through a resize: the tests that led there, as the code makes them, and the parts that were followed. Assumes nothing.
use Rattle.std.specs.Prelude.{◌≡◌, Bool, List, ℕ, ◌+◌, ◌-◌, ◌≤◌, ◌<◌, eqb, ltb, get_or, Option, Some}
use Rattle.std.proofs.Math.Path.{sym}
use Rattle.std.proofs.Common.{ap, ◌∙◌, arith}
use Rattle.std.proofs.Math.Bool.{true, false}
use Rattle.std.proofs.Math.Dec.{leb}
use borrow.Author.Tests.{eqb-true, ltb-true, leb-true, lt-ltb, le-leb, lt-leb}
use Rattle.sizes.specs.Layout.{top_word, size_word}
use Rattle.sizes.specs.SizeWord.{p_of_word}
use Rattle.machine.specs.Lists.{both}
use Rattle.machine.specs.Heap.{Heap, top_of, top_size, size_of, next, binned}
use Rattle.machine.specs.Primitives.{grow_top}
use Rattle.machine.specs.Resize.{finish, resize}
use Rattle.machine.specs.View.{size_at}
use Rattle.sound.specs.Relation.{Loose, Good}
use Rattle.sound.specs.Release.{both_true}
use Rattle.primitives.specs.Follow.{Ok, Gave, Does}
use Rattle.primitives.specs.FollowLaws.{gave-giving, ok-len, ok-top}
use Rattle.release_join.specs.Reads.{top-free, loose-reads}
use Rattle.release_join.specs.Ahead.{Ahead, next-size, clear-binned, set_free}
use Rattle.resize.specs.States.{Live, Stands, Grows, top_reaches, Reaches, behind_reaches, take_in, sought}
use Rattle.resize.specs.Finish.{live-stands, ahead}

-- c's size as the code reads it
pub live-read : (h : Heap) (w r : List ℕ) (c z : ℕ) → Ok h w r → Good h → Loose h c → z ≡ size_at w c → Live h c z
live-read h w r c z o g lo e = record { good = g; loose = lo; whole = (loose-reads h w r o c lo).size ∙ sym e }

module _ (h : Heap) (w r : List ℕ) (c z b : ℕ) (o : Ok h w r) (L : Live h c z) where
  next-same : next h c ≡ c + z
  next-same = ap (λ (z : ℕ). c + z) L.whole

  -- ---- the chunk behind: the top; not binned; binned
  abbrev A : Ahead h c z
  A = ahead h c z (live-stands h c z L)

  free-not : binned h (c + z) ≡ 0 → false ≡ behind_reaches h c b
  free-not e = ap (λ (n : ℕ). both (ltb 0 n) (leb b (size_of h c + size_of h (next h c)))) (sym (ap (binned h) next-same ∙ e))

  pub top-behind : c + z ≡ get_or r top_word 0 → false ≡ behind_reaches h c b
  top-behind e = free-not (ap (binned h) (e ∙ ok-top h w r o) ∙ top-free h w r o)

  module _ (y x : ℕ) (p : Bool) (ne : c + z ≡ get_or r top_word 0 → ⊥) (ey : y ≡ size_at w (c + z)) (ex : x ≡ get_or w (size_word (c + z + y)) 0) (ep : p ≡ p_of_word x) where
    pub held-behind : p ≡ true → false ≡ behind_reaches h c b
    held-behind e = free-not (set_free h w r c z o A y x p ne ey ex ep e)

    pub binned-behind : p ≡ false → leb b (z + y) ≡ behind_reaches h c b
    binned-behind e =
        let m : ltb 0 (binned h (next h c)) ≡ true =
        lt-ltb 0 (binned h (next h c)) (omega (arith, clear-binned h w r c z o A y x p ne ey ex ep e, ap (binned h) next-same)) in
        let s : z + y ≡ size_of h c + size_of h (next h c) =
        omega (arith, L.whole, next-size h w r c z o A y ne ey, ap (size_of h) next-same) in
        rw m (ap (leb b) s)

  -- ---- large enough
  pub stays-gave : {v q : List ℕ} → b ≤ z → Does (Unit {0}) (λ g. Stands g c z) (finish c b) w r tt v q → Gave (Option ℕ) (resize c b h) (Some c) w v q
  unfolding resize
  stays-gave l D =
      let t : leb b (size_of h c) ≡ true = le-leb b (size_of h c) (omega (arith, L.whole)) in
      rw (t, resize) (gave-giving (finish c b h) tt (Some c) (D.does h o (live-stands h c z L)))

  module _ (l : z < b) where
    short : leb b (size_of h c) ≡ false
    short = lt-leb b (size_of h c) (omega (arith, L.whole))

    module _ (t : Bool) (et : t ≡ top_reaches r c z b) where
      top-is : both (eqb (next h c) (top_of h)) (leb (b + 32) (size_of h c + top_size h)) ≡ t
      top-is =
          ap (λ (s : ℕ). both (eqb (c + s) (top_of h)) (leb (b + 32) (s + top_size h))) L.whole
          ∙ ap (λ (n : ℕ). both (eqb (c + z) n) (leb (b + 32) (z + (h.len - n)))) (sym (ok-top h w r o))
          ∙ ap (λ (n : ℕ). both (eqb (c + z) (get_or r top_word 0)) (leb (b + 32) (z + (n - get_or r top_word 0)))) (sym (ok-len h w r o)) ∙ sym et

      -- ---- from the top
      module _ (y : t ≡ true) where
        pub top-grows : Grows h c b
        top-grows =
            let q = both_true (eqb (next h c) (top_of h)) (leb (b + 32) (size_of h c + top_size h)) (top-is ∙ y) in
            record {
              good = L.good;
              loose = L.loose;
              top = eqb-true (next h c) (top_of h) q.0;
              less = omega (arith, L.whole);
              enough = leb-true (b + 32) (size_of h c + top_size h) q.1;
            }

        pub top-gave : {v q : List ℕ} → Does (Unit {0}) (λ g. Grows g c b) (grow_top c b) w r tt v q → Gave (Option ℕ) (resize c b h) (Some c) w v q
        unfolding resize
        top-gave D =
            let q : both (eqb (next h c) (top_of h)) (leb (b + 32) (size_of h c + top_size h)) ≡ true = top-is ∙ y in
            rw (short, q, resize) (gave-giving (grow_top c b h) tt (Some c) (D.does h o top-grows))

      module _ (n : t ≡ false) where
        not_top : both (eqb (next h c) (top_of h)) (leb (b + 32) (size_of h c + top_size h)) ≡ false
        not_top = top-is ∙ n

        module _ (s : Bool) (es : s ≡ behind_reaches h c b) where
          -- ---- a binned chunk behind
          module _ (i : s ≡ true) where
            pub behind-reaches : Reaches h c z b
            behind-reaches =
                let q = both_true (ltb 0 (binned h (next h c))) (leb b (size_of h c + size_of h (next h c))) (sym es ∙ i) in
                record {
                  live = L;
                  behind = omega (arith, ltb-true 0 (binned h (next h c)) q.0, ap (binned h) next-same);
                  enough = omega (arith, leb-true b (size_of h c + size_of h (next h c)) q.1, ap (size_of h) next-same, L.whole);
                }

            pub behind-gave : {v q : List ℕ} → Does (Unit {0}) (λ g. Reaches g c z b) (take_in c b) w r tt v q → Gave (Option ℕ) (resize c b h) (Some c) w v q
            unfolding resize
            behind-gave D =
                let q : behind_reaches h c b ≡ true = sym es ∙ i in
                rw (short, not_top, q, resize) (gave-giving (take_in c b h) tt (Some c) (D.does h o behind-reaches))

          -- ---- a new block
          pub sought-gave : {x : Option ℕ} {v q : List ℕ} → s ≡ false → Does (Option ℕ) (λ g. Live g c z) (sought c z b) w r x v q → Gave (Option ℕ) (resize c b h) x w v q
          unfolding resize
          sought-gave i D =
              let q : behind_reaches h c b ≡ false = sym es ∙ i in
              rw (short, not_top, q, L.whole, resize) (D.does h o L)
