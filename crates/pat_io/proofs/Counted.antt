-- Times that are counted up to a greatest number.
use Rattle.std.proofs.Common.{◌≡◌, ℕ, ◌+◌, ◌-◌, ◌*◌, ◌^◌, ◌<◌, ◌≤◌, min, Bool, true, false, List, ◌++◌, length, drop, get_or, sym, ap, ◌∙◌, if◌then◌else◌, arith}
use Rattle.std.proofs.lemmas.Bool.{le-leb}
use Rattle.pat_text.specs.declared.parsed.ParsedPattern.{ParsedPattern}
use Rattle.pat_io.specs.Fitting.{if_not, unit_size, time_behind, time_faults}
use Rattle.pat_io.specs.PatternText.{first_line}
use Rattle.pat_io.proofs.Turns.{at_next}

-- a time as it is counted
abbrev pub counted : ℕ → ℕ
counted time = min time (2 ^ 128 - 1)

-- a time that is counted as no earlier than the one before is no earlier
no_earlier : (is_added : Bool) (time before now x : ℕ) → x ≤ 2 ^ 72 → before ≡ counted time → now ≡ counted ((if is_added then before else 0) + x) → before ≤ now
    → (time ≤ (if is_added then time else 0) + x) × (now ≡ counted ((if is_added then time else 0) + x))
no_earlier true time before now x small is next on = (omega arith, omega (arith, is, next))
no_earlier false time before now x small is next on = (omega (arith, small, is, next, on), omega (arith, next))

-- the patterns before number k are in order; `before` is the time of the last of them as it is counted
pub record Reached (patterns : List ParsedPattern) (k before : ℕ) : Type 0 where
  pub time : ℕ
  pub is : before ≡ counted time
  pub faults : first_line (time_faults time (drop k patterns)) ≡ first_line (time_faults 0 patterns)

pub reached_next : (patterns : List ParsedPattern) (k before now : ℕ) (p : ParsedPattern) → k < length patterns → p ≡ get_or patterns k p
    → p.time.number * unit_size p.time.unit ≤ 2 ^ 72 → now ≡ counted (time_behind before p.time) → before ≤ now → Reached patterns k before → Reached patterns (k + 1) now
reached_next patterns k before now p within is small next on r =
    let later = time_behind r.time p.time in
    let step = no_earlier p.time.is_added r.time before now (p.time.number * unit_size p.time.unit) small r.is next on in
    record {
      time = later;
      is = step.1;
      faults =
          sym (ap (λ (b : Bool). first_line (if_not b p.line ++ time_faults later (drop (k + 1) patterns))) (le-leb r.time later step.0))
          ∙ sym (at_next (λ (xs : List ParsedPattern). first_line (time_faults r.time xs)) patterns k p within is) ∙ r.faults;
    }
