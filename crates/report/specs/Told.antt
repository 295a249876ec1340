-- What the exported calls tell their caller: an answer in document 01's numbers.
-- "For an answer that is an enum, a definition gives this paper's number and values for each case of the enum. The promises use that
-- definition": each crate's paper_of.
use Rattle.std.specs.Prelude.{ℕ, ◌-◌, ◌≡◌, List, ◌++◌, length, take, replicate}
use Rattle.words.specs.Paper.{Paper, refused_with}
use Rattle.writer.specs.Write.{lent_after}
use Rattle.report.specs.declared.Report.{Report}

-- the most values that come with an answer
abbrev pub most_values : ℕ
most_values = 4

-- the report of an answer: zeros past its values
abbrev pub report_of : Paper → Report
report_of p =
    record {
      number = p.number;
      place = p.place;
      count = length p.values;
      values = p.values ++ replicate (most_values - length p.values) 0;
    }

-- a report's number, place and values
abbrev pub paper : Report → Paper
paper r = refused_with r.number r.place (take r.count r.values)

-- The number is what a call returns, the place what it stores; the values stand at the start of the caller's `out`, which is left as it
-- was where it is too short. They are no lent words of document 01: a refusal comes with values too.
pub record Told (p : Paper) (number place : ℕ) (out after : List ℕ) : Type 0 where
  pub says_number : number ≡ p.number
  pub says_place : place ≡ p.place
  pub says_values : after ≡ lent_after p.values out
