-- Whether two verdicts are the same.
use Rattle.std.specs.Prelude.{Bool}
use Rattle.call_stacks.specs.Verdicts.{is_answered, is_crossed, is_failed, is_open, is_replied}
use Rattle.call_stacks.specs.declared.verdict.Verdict.{Verdict}
use Rattle.call_stacks.specs.declared.verdict.Verdict.TheVariants.{Answered, Crossed, Failed, Open, Replied}

-- whether the second verdict is the same as the first
abbrev pub is_verdict : Verdict → Verdict → Bool
is_verdict Answered verdict = is_answered verdict
is_verdict Failed verdict = is_failed verdict
is_verdict Replied verdict = is_replied verdict
is_verdict Crossed verdict = is_crossed verdict
is_verdict Open verdict = is_open verdict
