-- What a test of soundness hands back, without the proof that it holds. Nobody has to believe this: the contracts of the calls speak of
-- benches alone.
use Rattle.std.specs.Prelude.{not, if◌then◌else◌, Result, Ok, Err}
use Rattle.words.specs.Paper.{refusal}
use Rattle.words.specs.declared.Refusal.{Refusal}
use Rattle.words.specs.declared.Fault.TheVariants.{NotSound}
use Rattle.bench.specs.Calls.{bench_with, sound_bench}
use Rattle.bench.specs.declared.Bench.{Bench}
use Rattle.bench.specs.declared.sound.SoundBench.{SoundBench}

-- "20. Bench not sound; place 0": or the bench
abbrev pub sound_check : Bench → Result Bench Refusal
sound_check b = if not (sound_bench b) then Err (refusal NotSound 0) else Ok b

-- the bench that is held as a sound one
abbrev pub bench_held : SoundBench → Bench
bench_held s = bench_with s.held.tables.tables s.held.bound s.glue

-- that bench, or why there is none
abbrev pub held_or : Result SoundBench Refusal → Result Bench Refusal
held_or (Ok s) = Ok (bench_held s)
held_or (Err r) = Err r
