-- What map_job prints for the bytes of its standard input: "a last word cut short is 2 at its index, before all else"; else what the mapper
-- answers to the words.
use Rattle.std.specs.Prelude.{ℕ, ◌/◌, ◌%◌, not, List, eqb, length, if◌then◌else◌}
use Rattle.words.specs.Paper.{refusal}
use Rattle.files.specs.Files.{words_of}
use Rattle.lines.specs.Lines.{refused_line}
use Rattle.mapper.specs.Mapping.{answer_of, lent_after_map}
use Rattle.map_answers.specs.Answers.{map_text}
use Rattle.words.specs.declared.Fault.TheVariants.{OutOfSequence}

unfoldable pub job_text : List ℕ → List ℕ → List ℕ
job_text file lent =
    if not (eqb (length file % 4) 0) then refused_line (refusal OutOfSequence (length file / 4))
    else map_text (answer_of (words_of file) lent) (lent_after_map (words_of file) lent)
