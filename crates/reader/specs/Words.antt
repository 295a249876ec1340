-- Document 01, refusals 1 to 6: the words of a job or a mapping.
use Rattle.std.specs.Prelude.{ℕ, List, ltb, length, if◌then◌else◌, Result, Err}
use Rattle.words.specs.Paper.{refusal}
use Rattle.words.specs.declared.Refusal.{Refusal}
use Rattle.words.specs.declared.Fault.TheVariants.{BadLength}
use Rattle.sequence.specs.Limits.{most_job_words, most_mapping_words}
use Rattle.sequence.specs.declared.File.{File}
use Rattle.sequence.specs.declared.File.TheVariants.{AsJob, AsMapping}
use Rattle.sequence.specs.declared.State.{State}
use Rattle.grammar.specs.Reading.{beginning, reading}

-- "over 568 in a job or over 29 in a mapping"
abbrev pub most_words : File → ℕ
most_words AsJob = most_job_words
most_words AsMapping = most_mapping_words

-- "1. No words, over 568 in a job or over 29 in a mapping; place 0." "1 first; then word by word, 2 to 6 in each"
unfoldable pub words_read : File → List ℕ → Result State Refusal
words_read file ws =
    if ltb (length ws) 1 then Err (refusal BadLength 0)
    else if ltb (most_words file) (length ws) then Err (refusal BadLength 0)
    else reading file beginning 0 ws
