-- Document 01, refusals 7 and 8: "A mapping fits its job if neither 7 nor 8 holds".
use Rattle.std.specs.Prelude.{ℕ, ◌+◌, not, List, [], ◌∷◌, eqb, if◌then◌else◌, Result, Ok, Err, ⊤}
use Rattle.words.specs.Paper.{refusal}
use Rattle.reader.specs.Starts.{bindings_start}
use Rattle.reader.specs.declared.Mapping.{Mapping}
use Rattle.table.specs.Parts.{Terms}
use Rattle.table.specs.Table.{in_job}
use Rattle.words.specs.declared.Refusal.{Refusal}
use Rattle.words.specs.declared.Fault.TheVariants.{NotInJob, OtherWidth}

-- "8. Source or target function not in the job; first such word", of bindings that begin at a word
unfoldable pub all_in_job : List ℕ → List ℕ → ℕ → List ℕ → Result ⊤ Refusal
all_in_job sources targets place [] = Ok tt
all_in_job sources targets place (w ∷ ws) =
    if not (in_job sources targets w) then Err (refusal NotInJob place) else all_in_job sources targets (place + 1) ws

-- "7. Widths of mapping and job differ; place 0."; then 8: all that counts of a job is its width and its source and target words
abbrev pub fit_at_width : ℕ → List ℕ → List ℕ → Mapping → List ℕ → Result ⊤ Refusal
fit_at_width width sources targets mapping bindings =
    if not (eqb width mapping.width) then Err (refusal OtherWidth 0)
    else all_in_job sources targets bindings_start bindings

unfoldable pub fit_of : Terms → Mapping → List ℕ → Result ⊤ Refusal
fit_of t mapping bindings = fit_at_width t.width t.sources t.targets mapping bindings
