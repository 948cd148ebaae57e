-- The blocks in which a host keeps a table, a run and a track that was read: each has a stamp where it is filled.
use Rattle.std.specs.Prelude.{ℕ, zero, suc, List, get_or, eqb}
use Rattle.lines.specs.Line.{choose}

-- the stamps of blocks that are filled
abbrev pub table_stamp : ℕ
table_stamp = 0x5045415441423031

abbrev pub run_stamp : ℕ
run_stamp = 0x50454152554e3031

abbrev pub track_stamp : ℕ
track_stamp = 0x50454154524b3031

-- what is told of a block that was never filled
abbrev pub no_table : ℕ
no_table = 0x30001

abbrev pub no_run : ℕ
no_run = 0x30002

abbrev pub no_track : ℕ
no_track = 0x30003

-- a word of a block's head: its stamp, and its three counts
abbrev pub head_word : List ℕ → ℕ → ℕ
head_word head k = get_or head k 0

-- 0 where a table's and a run's block are filled, by their stamps; else the number of the one that is not
unfoldable pub unready : ℕ → ℕ → ℕ
unready table run = choose (eqb table table_stamp) (choose (eqb run run_stamp) 0 no_run) no_table

-- what is to be told, unless a block is not filled
unfoldable pub unless : {A : Type 0} → ℕ → (ℕ → A) → A → A
unless zero untouched ready = ready
unless (suc n) untouched ready = untouched (suc n)
