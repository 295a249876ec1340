-- Document 01, "Words": how many words a job and a mapping may have. "A job: header, prices, 1 to 27 sources,
-- 0 to 27 targets, 0 to 512 rules. A mapping: header, 0 to 27 bindings, glue count."
use Rattle.std.specs.Prelude.{ℕ}

-- "1 to 27 sources"
abbrev pub most_sources : ℕ
most_sources = 27

-- "0 to 27 targets"
abbrev pub most_targets : ℕ
most_targets = 27

-- "0 to 512 rules"
abbrev pub most_rules : ℕ
most_rules = 512

-- "0 to 27 bindings"
abbrev pub most_bindings : ℕ
most_bindings = 27

-- "over 568 in a job or over 29 in a mapping"
abbrev pub most_job_words : ℕ
most_job_words = 568

abbrev pub most_mapping_words : ℕ
most_mapping_words = 29
