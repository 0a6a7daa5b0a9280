-- What a shelf and a sink in memory hold. Calls are counted from 1, and those whose number is listed fail.
use Rattle.std.specs.Prelude.{ℕ, List, ◌+◌, ◌-◌, ◌^◌, min, Contains, refl}
use Rattle.std.specs.Coded.{Coded, code_by, coded×, coded_ℕ, coded_list}
use Rattle.vlsi_shelf.specs.Files.{Files, files_code}
use Rattle.vlsi_shelf.specs.Counts.{Counts}

-- one more, as far as a count goes
abbrev pub raised : ℕ → ℕ
raised count = min (count + 1) (2 ^ 64 - 1)

-- a shelf in memory: its files, the numbers of the calls that fail, the number of calls so far, and what it counts
pub record Memory : Type 0 where
  pub files : Files
  pub failing : List ℕ
  pub calls : ℕ
  pub counts : Counts

-- the next call is listed as one that fails
abbrev pub NextFails : List ℕ → ℕ → Type 0
NextFails failing calls = Contains failing (raised calls)

-- nothing has been counted
abbrev pub no_counts : Counts
no_counts = record { read_faults = 0; write_faults = 0; misses = 0 }

abbrev pub memory_code : Coded Memory
memory_code =
    code_by ((Files × List ℕ) × (ℕ × (ℕ × (ℕ × ℕ)))) (coded× (coded× files_code (coded_list coded_ℕ)) (coded× coded_ℕ (coded× coded_ℕ (coded× coded_ℕ coded_ℕ))))
    (λ m. ((m.files, m.failing), (m.calls, (m.counts.read_faults, (m.counts.write_faults, m.counts.misses)))))
    (λ p. record { files = p.0.0; failing = p.0.1; calls = p.1.0; counts = record { read_faults = p.1.1.0; write_faults = p.1.1.1.0; misses = p.1.1.1.1 } })
    (λ _. refl)

-- a sink in memory: its bytes, the numbers of the puts that fail, the number of puts so far, and how many have failed
pub record Printed : Type 0 where
  pub bytes : List ℕ
  pub failing : List ℕ
  pub puts : ℕ
  pub faults : ℕ

abbrev pub printed_code : Coded Printed
printed_code =
    code_by ((List ℕ × List ℕ) × (ℕ × ℕ)) (coded× (coded× (coded_list coded_ℕ) (coded_list coded_ℕ)) (coded× coded_ℕ coded_ℕ))
    (λ m. ((m.bytes, m.failing), (m.puts, m.faults)))
    (λ p. record { bytes = p.0.0; failing = p.0.1; puts = p.1.0; faults = p.1.1 })
    (λ _. refl)
