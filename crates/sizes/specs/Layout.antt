-- Which word of the record is what, and which word of the arena a field of a chunk is. Definitions only.
use Rattle.std.specs.Prelude.{ℕ, ◌+◌, ◌*◌, ◌/◌}

-- ---- the record's words: length, top, last remainder; 64 cache heads, 64 counts; 10 fast heads; first and last of bins 1 to 126; the key's
-- low and high half; the edition
abbrev pub length_word : ℕ
length_word = 0

abbrev pub top_word : ℕ
top_word = 1

abbrev pub remainder_word : ℕ
remainder_word = 2

abbrev pub cache_head : ℕ → ℕ
cache_head k = 3 + k

abbrev pub cache_count : ℕ → ℕ
cache_count k = 67 + k

abbrev pub fast_head : ℕ → ℕ
fast_head k = 131 + k

abbrev pub bin_first : ℕ → ℕ
bin_first j = 139 + 2 * j

abbrev pub bin_last : ℕ → ℕ
bin_last j = 140 + 2 * j

abbrev pub key_low : ℕ
key_low = 393

abbrev pub key_high : ℕ
key_high = 394

abbrev pub edition_word : ℕ
edition_word = 395

-- ---- the arena's 8-byte words: the chunk at c has its previous size at c, its size word at c + 8, its links at c + 16 and c + 24;
-- in a cache list the key stands at c + 24, where a bin has the back link; a chunk of 1,024 bytes or more has skip links at c + 32 and c + 40
abbrev pub prev_word : ℕ → ℕ
prev_word c = c / 8

abbrev pub size_word : ℕ → ℕ
size_word c = c / 8 + 1

abbrev pub fwd_word : ℕ → ℕ
fwd_word c = c / 8 + 2

abbrev pub back_word : ℕ → ℕ
back_word c = c / 8 + 3

abbrev pub key_word : ℕ → ℕ
key_word c = c / 8 + 3

abbrev pub skip_fwd_word : ℕ → ℕ
skip_fwd_word c = c / 8 + 4

abbrev pub skip_back_word : ℕ → ℕ
skip_back_word c = c / 8 + 5
