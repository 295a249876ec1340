-- What the verdict on all bindings, which the code looks for before it prices them, has to say. Nobody has to believe this:
-- Rightness.antt's `unless_wrong` is the refusal.
use Rattle.std.specs.Prelude.{ℕ, ◌≡◌, List}
use Rattle.verdict.specs.Verdicts.{Differs, Ruling, Gives, Names}
use Rattle.verdict.specs.declared.Verdict.{Verdict}
use Rattle.verdict.specs.declared.Verdict.TheVariants.{Right, Wrong}
use Rattle.table.specs.Parts.{Terms}
use Rattle.rightness.specs.Rightness.{unless_wrong}

abbrev pub VerdictRuled : Ruling Verdict → Verdict → Type 0
VerdictRuled (Gives v) r = r ≡ v
VerdictRuled (Names c n) Right = ⊥
VerdictRuled (Names c n) (Wrong v) = Differs c n v

-- Right if each of them is, else Wrong of the first that is not
abbrev pub SaysOfAll : Terms → List ℕ → Verdict → Type 0
SaysOfAll t bindings v = VerdictRuled (unless_wrong t bindings (Gives Right)) v
