-- Every limit of document 01, by name. Definitions only.
use Rattle.std.specs.Prelude.{ℕ}

-- an arena is a multiple of 16 bytes, from the least to the most
abbrev pub least_arena : ℕ
least_arena = 32

abbrev pub most_arena : ℕ
most_arena = 262144

-- a request above this is refused with number 2
abbrev pub most_request : ℕ
most_request = 262144

-- the smallest chunk, and the smallest rest that a split leaves
abbrev pub least_chunk : ℕ
least_chunk = 32

-- the largest chunk that a cache list takes, how many lists there are, and how many chunks each takes
abbrev pub most_cached : ℕ
most_cached = 1040

abbrev pub cache_lists : ℕ
cache_lists = 64

abbrev pub cache_room : ℕ
cache_room = 7

-- the largest chunk that a fast list takes, and how many lists there are
abbrev pub most_fast : ℕ
most_fast = 128

-- a joining that yields so much has the fast chunks joined too
abbrev pub consolidate_from : ℕ
consolidate_from = 65536

abbrev pub fast_lists : ℕ
fast_lists = 10

-- the smallest large size, the unsorted bin, the first bin of large chunks, and the last bin
abbrev pub large : ℕ
large = 1024

abbrev pub unsorted : ℕ
unsorted = 1

abbrev pub first_large : ℕ
first_large = 64

abbrev pub last_bin : ℕ
last_bin = 126

-- the record's words, and its bytes
abbrev pub record_words : ℕ
record_words = 396

abbrev pub record_bytes : ℕ
record_bytes = 1584

-- the newest version of the rules, and of an image
abbrev pub newest : ℕ
newest = 4

-- the editions: how the forward links of cache and fast lists are stored, as they are or mixed
abbrev pub plain : ℕ
plain = 1

abbrev pub mixed : ℕ
mixed = 2

-- no chunk: as a link in the arena, and as a word of the record
abbrev pub none64 : ℕ
none64 = 18446744073709551615

abbrev pub none32 : ℕ
none32 = 4294967295
