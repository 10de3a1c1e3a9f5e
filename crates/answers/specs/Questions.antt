-- Every question that the command asks of a file, and the answer.
-- Assumes nothing.
use Rattle.std.specs.Prelude.{true, false, cond, List, ℕ, ltb, length}
use Rattle.find.specs.Told.{wanted_of}
use Rattle.lines.specs.Answer.{Answer, answer, too_long_line, closed}
use Rattle.outputs.specs.Printed.{sheet_answer, moved_answer, utf8_answer, utf16_answer}
use Rattle.checks.specs.Checked.{check_answer, verdict_answer}
use Rattle.places.specs.Places.{place_answer, resource_answer, origin_answer}
use Rattle.tables.specs.Rows.{rows_answer, found_answer}
use Rattle.titles.specs.Titles.{titles_answer, corrected_answer, retitled_answer}
use Rattle.usage.specs.Bytes.{bytes_answer, bytes_line_answer}
use Rattle.frames.specs.Tags.{row_tag_answer, tag_answer}
use Rattle.spans.specs.Runs.{runs_answer}
use Rattle.outputs.specs.Mended.{mended_answer, mend_lines_answer}
use Rattle.needs.specs.Needed.{needs_answer, row_needs_answer, count_answer}
use Rattle.answers.specs.declared.asked.Asked.{Asked}
use Rattle.answers.specs.declared.asked.Asked.TheVariants as asked

-- The answer to a question: `word` is the name or the bytes that the question has, `tail` the field that ends the answer's line, and the text has
-- `room` bytes.
unfoldable pub answer_to : (word tail : List ℕ) → (room : ℕ) → (f : List ℕ) → Asked → Answer
answer_to word tail room f asked.Sheet = sheet_answer room false tail f
answer_to word tail room f asked.Sheet2 = sheet_answer room true tail f
answer_to word tail room f asked.Moved = moved_answer room f
answer_to word tail room f asked.Check = check_answer room tail f
answer_to word tail room f asked.Rows = rows_answer room f
answer_to word tail room f asked.Verdict = verdict_answer room tail f
answer_to word tail room f (asked.Near row field) = found_answer room true (wanted_of field word) row f
answer_to word tail room f (asked.Own row field) = found_answer room false (wanted_of field word) row f
answer_to word tail room f (asked.Place row) = place_answer room row f
answer_to word tail room f (asked.Resource row) = resource_answer room row f
answer_to word tail room f (asked.Origin row) = origin_answer room row f
answer_to word tail room f asked.Needs = needs_answer room f
answer_to word tail room f (asked.RowNeeds row) = row_needs_answer room row f
answer_to word tail room f (asked.Count row channel resource) = count_answer room row channel resource f
answer_to word tail room f asked.Bytes = bytes_answer room tail f
answer_to word tail room f asked.BytesLine = bytes_line_answer room tail f
answer_to word tail room f (asked.RowTag row hidden which) = row_tag_answer room row hidden which f
answer_to word tail room f (asked.Tag which) = tag_answer room which f
answer_to word tail room f asked.Titles = titles_answer room f
answer_to word tail room f (asked.Corrected row) = corrected_answer room row word f
answer_to word tail room f (asked.Retitled row) = retitled_answer room row word f
answer_to word tail room f asked.Utf8 = utf8_answer room f
answer_to word tail room f asked.Utf16 = utf16_answer room f
answer_to word tail room f asked.Runs = runs_answer room f
answer_to word tail room f asked.Mended = mended_answer room f
answer_to word tail room f asked.MendLines = mend_lines_answer room f

-- a file of more than 65,536 bytes is too long
unfoldable pub answer_of : (word tail : List ℕ) → (room : ℕ) → (f : List ℕ) → Asked → Answer
answer_of word tail room f a = cond (ltb 65536 (length f)) (closed room (answer 2 (too_long_line tail))) (answer_to word tail room f a)
