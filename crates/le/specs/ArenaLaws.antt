-- The laws of the arena's words: those of the list of words at width 8, with byte offsets that are multiples of 8. Assumes nothing.
use Rattle.std.specs.Prelude.{◌≡◌, List, ℕ, ◌+◌, ◌*◌, ◌/◌, ◌%◌, ◌^◌, ◌≤◌, ◌<◌, length, get_or, set}
use Rattle.std.proofs.Common.{◌∙◌, arith}
use Rattle.le.specs.Number.{number, put, bytes}
use Rattle.le.specs.NumberLaws.{length-put}
use Rattle.le.specs.WordsLaws.{length-words, get_d_words, words-put, length-bytes, words-bytes, bytes-words}
use Rattle.le.specs.Arena.{arena_words}

pub length-arena_words : (a : List ℕ) → length (arena_words a) ≡ length a / 8
unfolding arena_words
length-arena_words a = length-words 8 (length a / 8) a

pub get_d-arena_words : (a : List ℕ) (o : ℕ) → o % 8 ≡ 0 → o + 8 ≤ length a → get_or (arena_words a) (o / 8) 0 ≡ number 8 a o
unfolding arena_words
get_d-arena_words a o e h =
    let q : 8 * (o / 8) ≡ o = omega arith in
    get_d_words 8 (length a / 8) a (o / 8) (omega arith) ∙ rw q

pub arena_words-set : (a : List ℕ) (o v : ℕ) → o % 8 ≡ 0 → o + 8 ≤ length a → v < 256 ^ 8 → arena_words (put 8 a o v) ≡ set (arena_words a) (o / 8) v
unfolding arena_words
arena_words-set a o v e h b =
    let q : 8 * (o / 8) ≡ o = omega arith in
    rw length-put (rw q at (words-put 8 (length a / 8) a (o / 8) v (omega arith) (omega arith) b))

pub bytes-arena_words : (a : List ℕ) → length a % 8 ≡ 0 → ((i : ℕ) → get_or a i 0 < 256) → bytes 8 (arena_words a) ≡ a
unfolding arena_words
bytes-arena_words a e small = bytes-words 8 (length a / 8) a (omega arith) small

pub arena_words-bytes : (ws : List ℕ) → ((i : ℕ) → get_or ws i 0 < 256 ^ 8) → arena_words (bytes 8 ws) ≡ ws
unfolding arena_words
arena_words-bytes ws small =
    let q : length (bytes 8 ws) / 8 ≡ length ws = omega (arith, length-bytes 8 ws) in
    rw q (words-bytes 8 ws small)
