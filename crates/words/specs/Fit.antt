-- The words of an answer in a lent buffer, and totals in words.
-- Assumes nothing.
use Rattle.std.specs.Prelude.{List, ℕ, length, get_or, take}
use Rattle.std.proofs.lemmas.List.Edits.{sets}
use Rattle.room.specs.Room.{padded}
use Rattle.account.specs.declared.Totals.{Totals}

-- as many of the words as a buffer of that size holds, and zeros to its end
unfoldable pub fit : ℕ → List ℕ → List ℕ
fit size ws = padded size (take size ws)

-- a buffer that the words are stored in, from its first word on, as many as it holds; what is behind them stays
unfoldable pub stored : (buffer words : List ℕ) → List ℕ
stored ws new = sets ws 0 (take (length ws) new)

-- totals in words: files, refused, nine sums; a word that is not there is 0
abbrev pub totals_of : List ℕ → Totals
totals_of ws = record {
  files = get_or ws 0 0;
  refused = get_or ws 1 0;
  kinds = record {
    header = get_or ws 2 0;
    nodes = get_or ws 3 0;
    metadata = get_or ws 4 0;
    visible = get_or ws 5 0;
    hidden = get_or ws 6 0;
    unpackers = get_or ws 7 0;
    references = get_or ws 8 0;
    inline = get_or ws 9 0;
    rest = get_or ws 10 0;
  };
}
