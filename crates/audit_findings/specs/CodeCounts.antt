-- The counts of code words while they are made. Words of listed kinds are counted by their lines. No public clause names
-- these definitions.
use Rattle.std.specs.Prelude.{◌≡◌, ℕ, ◌==◌, not, Bool, List, map, filter, count_by, nat_lt}
use Rattle.std.specs.List.{list_any}
use Rattle.std.specs.Ordering.{nat_cmp}
use Rattle.binder_code.specs.Commands.{lines}
use Rattle.summary_law.specs.Tally.{TallySums}
use Rattle.audit_findings.specs.declared.code_counts.CodeCounts.{CodeCounts}
use Rattle.audit_findings.specs.declared.codes.CodeRow.{CodeRow}
use Rattle.audit_findings.specs.Codes.{code_row}

-- the code words of the header's lines, in the order of the lines
abbrev pub listed_words : List ℕ
listed_words = map (λ line. line.word) lines

-- how many of these code words are the one
abbrev pub count_of : List ℕ → ℕ → ℕ
count_of words one = count_by (λ word. word == one) words

-- the counts are, line by line, how many of these code words are the line's
abbrev pub CountListed : List ℕ → List ℕ → Type 0
CountListed counts words = counts ≡ map (count_of words) listed_words

-- whether a code word is that of an opaque record, if it is the word of a record without a fault: no line has it
abbrev pub is_opaque_word : ℕ → Bool
is_opaque_word word = not (list_any (λ listed. word == listed) listed_words)

-- a code word as an item of the tally: its weight is 0
abbrev pub word_item : ℕ → ℕ × ℕ
word_item word = (word, 0)

-- the counts are those of these code words
pub record CountWords (counts : CodeCounts) (words : List ℕ) : Type 0 where
  pub listed : CountListed counts.listed words
  pub opaque : TallySums nat_cmp counts.opaque (map word_item (filter is_opaque_word words))

-- whether the row counts any record
abbrev pub has_records : CodeRow → Bool
has_records row = nat_lt 0 row.count

-- the rows of the lines whose code words are among these, in the order of the lines
abbrev pub listed_rows : List ℕ → List CodeRow
listed_rows words = filter has_records (map (code_row words) listed_words)

-- the row of a code word, from the row of the tally: its key and its count
abbrev pub row_of : ℕ × ℕ × ℕ → CodeRow
row_of row = record { word = row.0; count = row.1 }
