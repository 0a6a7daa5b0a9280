-- What a reader answers where it stops.
use Rattle.std.specs.Prelude.{◌≡◌, ℕ, ◌+◌, ◌-◌, List, [], ◌∷◌, drop, length, None}
use Rattle.vlsi_base.specs.declared.fault.ReadError.{ReadError}
use Rattle.vlsi_base.specs.declared.fault.ReadError.TheVariants as errors
use Rattle.vlsi_base.specs.declared.fault.FaultKind.TheVariants as fault
use Rattle.vlsi_base.specs.declared.fault.LimitKind.TheVariants as limit
use Rattle.vhdl_token.specs.declared.token.PlacedToken.{PlacedToken}
use Rattle.grammar_theory.specs.declared.limits.TheConstants.{DEPTH, CHAIN}
use Rattle.grammar_theory.specs.declared.refusal.Breach.{Breach}
use Rattle.grammar_theory.specs.declared.refusal.Breach.TheVariants as broken
use Rattle.grammar_theory.specs.declared.refusal.Reason.{Reason}
use Rattle.grammar_theory.specs.declared.refusal.Reason.TheVariants as reason
use Rattle.grammar_theory.specs.declared.refusal.Refusal.{Refusal}
use Rattle.grammar_theory.specs.declared.refusal.Stop.{Stop}
use Rattle.grammar_theory.specs.declared.refusal.Stop.TheVariants as stop

-- the line of the next token; the end stands on the last line
abbrev pub line_at : ℕ → List PlacedToken → ℕ
line_at last [] = last
line_at last (t ∷ ts) = t.line

-- the line of the token from which on so many are left
abbrev pub line_left : ℕ → List PlacedToken → ℕ → ℕ
line_left last ts left = line_at last (drop (length ts - left) ts)

abbrev pub syntax_on : ℕ → ReadError
syntax_on line = errors.Input (record { line = line; kind = fault.Syntax; names = [] })

-- what is answered for a breach at a token on this line
abbrev pub breach_error : ℕ → Breach → ReadError
breach_error line (broken.Twice begins name) = errors.Input (record { line = begins; kind = fault.Twice; names = record { text = name; bit = None } ∷ [] })
breach_error line broken.Depth = errors.Limit (record { which = limit.Depth; reached = DEPTH + 1 })
breach_error line (broken.Bits n) = errors.Limit (record { which = limit.Bits; reached = n })
breach_error line broken.Chain = errors.Limit (record { which = limit.Chain; reached = CHAIN + 1 })
breach_error line broken.Spelling = syntax_on line

abbrev pub reason_error : ℕ → Reason → ReadError
reason_error line reason.Syntax = syntax_on line
reason_error line (reason.Breach b) = breach_error line b

-- what is answered for a refusal of one of these tokens
abbrev pub error_of : ℕ → List PlacedToken → Refusal → ReadError
error_of last ts r = reason_error (line_left last ts r.left) r.reason

-- this answer, unless memory ran out
abbrev pub OrMemory : ReadError → ReadError → Type 0
OrMemory k errors.Memory = Unit {0}
OrMemory k (errors.Input f) = errors.Input f ≡ k
OrMemory k (errors.Limit l) = errors.Limit l ≡ k

-- what a stop among these tokens is answered by
abbrev pub Becomes : ℕ → List PlacedToken → Stop → ReadError → Type 0
Becomes last ts stop.Memory e = e ≡ errors.Memory
Becomes last ts (stop.Refused r) e = OrMemory (error_of last ts r) e
