-- Document 01, "Words": where the parts of a job and of a mapping begin. "A job: header, prices, 1 to 27 sources, 0 to 27 targets, 0 to 512
-- rules. A mapping: header, 0 to 27 bindings, glue count."
use Rattle.std.specs.Prelude.{ℕ, ◌+◌}
use Rattle.reader.specs.declared.Job.{Job}

-- the sources, the targets and the rules of a job begin at these words
abbrev pub sources_start : ℕ
sources_start = 2

abbrev pub targets_start : Job → ℕ
targets_start job = sources_start + job.sources

abbrev pub rules_start : Job → ℕ
rules_start job = targets_start job + job.targets

-- the bindings of a mapping begin at this word; the k-th of them, and the glue count behind so many, stand at these
abbrev pub bindings_start : ℕ
bindings_start = 1

abbrev pub binding_place : ℕ → ℕ
binding_place k = bindings_start + k

abbrev pub glue_place : ℕ → ℕ
glue_place bindings = bindings_start + bindings
