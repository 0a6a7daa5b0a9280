-- What `syf` reads and answers.
use Rattle.std.specs.Prelude.{◌≡◌, ◌<◌, ◌^◌, ◌-◌, ◌+◌, ℕ, Bool, true, false, List, [], ◌∷◌, ◌++◌, reverse, length, get_or, codes, None, Some, Result, Ok, Err}
use Rattle.vlsi_base.specs.declared.name.Name.{Name}
use Rattle.vlsi_base.specs.Name.{name_text}
use Rattle.machine_core.specs.Machine.{Machine}
use Rattle.machine_core.specs.Checked.{IsChecked}
use Rattle.fsm_machine.specs.Fsm.{Fsm}
use Rattle.fsm_machine.specs.Codes.{Codes, AreCodes}
use Rattle.fsm_io.specs.Text.{IsFsm, IsFsmRefusal}
use Rattle.syf_encode.specs.declared.style.Style.{Style}
use Rattle.syf_encode.specs.declared.style.Style.TheVariants as style
use Rattle.syf_encode.specs.Codes.{codes_by}
use Rattle.syf_machine.specs.Named.{IsMachineOf}
use Rattle.syf_machine.specs.Meaning.{DoesAs}
use Rattle.spell_theory.specs.Layout.{text_of}
use Rattle.vbe_print.specs.Written.{layout}
use Rattle.tool_words.specs.declared.values.Encoding.{Encoding}
use Rattle.tool_words.specs.declared.values.Encoding.TheVariants as encoding
use Rattle.syf_run.specs.declared.words.SyfCommand.{SyfCommand}
use Rattle.tool_drive.specs.declared.tool.Product.{Product}
use Rattle.tool_drive.specs.declared.tool.Refusal.{Refusal}
use Rattle.tool_drive.specs.Plan.{Plan, Inputs, limited}
use Rattle.tool_drive.specs.Refusals.{OfFile}

abbrev pub syf_plan : SyfCommand → Plan
syf_plan c = record { first = limited c.source ∷ []; more = λ first. [] }

-- how the states get their codes
abbrev pub style_of : Encoding → ℕ → Style
style_of encoding.OneHot seed = style.OneHot
style_of encoding.Random seed = style.Random seed
style_of encoding.Adjacent seed = style.Adjacent

-- ---- the lines of codes

abbrev pub bit_digit : Bool → ℕ
bit_digit true = 49
bit_digit false = 48

abbrev pub digits : List Bool → List ℕ
digits [] = []
digits (b ∷ bits) = bit_digit b ∷ digits bits

-- a code from its highest bit to bit 0; one without bits is a dash
abbrev pub code_text : List Bool → List ℕ
code_text [] = codes "-"
code_text (b ∷ bits) = digits (reverse (b ∷ bits))

abbrev pub code_line : Name → List Bool → List ℕ
code_line state code = codes "code " ++ (name_text state ++ (codes " " ++ (code_text code ++ 10 ∷ [])))

-- each state with its code on a line, in the order of their declaration
abbrev pub code_lines : List Name → List (List Bool) → List ℕ
code_lines [] rest = []
code_lines (s ∷ states) [] = []
code_lines (s ∷ states) (code ∷ rest) = code_line s code ++ code_lines states rest

-- ---- answers

abbrev pub text_name : List ℕ → List ℕ
text_name out = out ++ codes ".vbe"

-- The bytes are a state machine, these are the codes of its states by the style, and this is its machine, which does what the state
-- machine does. Numbers of 32 bits count its names and ports, and leave room for names of later stages.
pub record IsEncodedSource (source : List ℕ) (how : Style) (f : Fsm) (c : Codes) (m : Machine) : Type 0 where
  pub machine : IsFsm source f
  pub codes_are : c ≡ codes_by how f
  pub different : AreCodes (length f.states) c
  pub made : IsMachineOf f c m
  pub does : DoesAs f c m
  pub checked : IsChecked m
  pub few : length m.vars + length m.ports < 2 ^ 32 - 2 ^ 16

-- the machine's text is that of NAME.vbe, and the codes are printed
pub record IsEncoding (c : SyfCommand) (source : List ℕ) (p : Product) : Type 0 where
  pub f : Fsm
  pub k : Codes
  pub m : Machine
  pub encoded : IsEncodedSource source (style_of c.encoding c.seed) f k m
  pub name : p.name ≡ text_name c.out
  pub file : p.file ≡ Some (text_of (layout m))
  pub text : p.text ≡ code_lines f.states k.codes

-- the text is written and the codes are printed, or the source's refusal
abbrev pub Encodes : SyfCommand → List ℕ → Result Product Refusal → Type 0
Encodes c source (Ok p) = IsEncoding c source p
Encodes c source (Err r) = (r.part ≡ None) × OfFile c.source (IsFsmRefusal source) r.status

abbrev pub syf_answers : SyfCommand → Inputs → Result Product Refusal → Type 0
syf_answers c i r = Encodes c (get_or i.first 0 []) r
