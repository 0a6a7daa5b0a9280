-- What words that spell `gen` ask for: a size within its bounds, and NAME.vbe for SOURCE.
use Rattle.std.proofs.Common.{◌≡◌, ℕ, ◌≤◌, Bool, true, false, cond, ◌&&◌, nat_le, List, ◌++◌, Option, None, Some, option_map, refl, subst}
use Rattle.std.specs.Prelude.{codes}
use Rattle.std.proofs.lemmas.Bool.{leb-true}
use Rattle.vlsi_base.specs.Number.{value_of}
use Rattle.clap.specs.Words.{first_of}
use Rattle.tool_words.specs.declared.values.Encoding.{Encoding}
use Rattle.tool_words.specs.declared.values.Encoding.TheVariants as encoding_variant
use Rattle.tool_words.specs.Table.{library, out}
use Rattle.tool_words.specs.Arguments.{given}
use Rattle.tool_words.specs.Values.{is_numeral, number_or_default, number_of, is_set, text_of}
use Rattle.tool_words.specs.Spelling.{are_taken}
use Rattle.flow_words.specs.declared.words.Numbers.{Numbers}
use Rattle.flow_words.specs.declared.words.FlowCommand.{FlowCommand}
use Rattle.flow_words.specs.declared.words.GenCommand.{GenCommand}
use Rattle.flow_words.specs.Words.{gen, size, tracks, numbers_of, flow_with, flow_on, gen_with, generated, gen_from, gen_of}

-- a number that is given lies within its bounds
within : (n : ℕ) (text : Option (List ℕ)) → number_or_default size.form text ≡ Some n → (8 ≤ n) × (n ≤ 4000)
within n None h = absurd (cc h)
within n (Some text) h = by (is_numeral text) (nat_le 8 (value_of text)) (nat_le (value_of text) 4000) refl refl h where
  by : (a b d : Bool) → nat_le 8 (value_of text) ≡ b → nat_le (value_of text) 4000 ≡ d → cond ((a && b) && d) (Some (value_of text)) None ≡ Some n → (8 ≤ n) × (n ≤ 4000)
  by true true true e f h =
      let same : value_of text ≡ n = cc h in
      subst (λ (k : ℕ). (8 ≤ k) × (k ≤ 4000)) same (leb-true 8 (value_of text) e, leb-true (value_of text) 4000 f)
  by true true false e f h = absurd (cc h)
  by true false d e f h = absurd (cc h)
  by false b d e f h = absurd (cc h)

-- the source is NAME.vbe
abbrev IsNamed : FlowCommand → Type 0
IsNamed f = f.source ≡ f.out ++ codes ".vbe"

named_by : (e : Encoding) (t : Bool) (ns : Option Numbers) (l o : Option (List ℕ)) (f : FlowCommand) → flow_with (option_map generated o) (Some e) t ns l o ≡ Some f → IsNamed f
named_by e t ns l None f h = absurd (cc h)
named_by e t None l (Some o) f h = absurd (cc h)
named_by e t (Some ns) None (Some o) f h = absurd (cc h)
named_by e t (Some ns) (Some l) (Some o) f h =
    let made : FlowCommand = record {
      source = o ++ codes ".vbe";
      library = l;
      out = o;
      encoding = e;
      tracks = t;
      rows = ns.rows;
      metals = ns.metals;
      seed = ns.seed;
      moves = ns.moves;
      nodes = ns.nodes;
      fanout = ns.fanout;
    } in
    let same : made ≡ f = cc h in
    subst IsNamed same refl

-- what the words of `gen` ask for
pub record IsSound (c : GenCommand) : Type 0 where
  pub least : 8 ≤ c.size
  pub most : c.size ≤ 4000
  pub source : c.flow.source ≡ c.flow.out ++ codes ".vbe"

gen_by : (n : Option ℕ) (f : Option FlowCommand) (c : GenCommand) → ((k : ℕ) → n ≡ Some k → (8 ≤ k) × (k ≤ 4000)) → ((x : FlowCommand) → f ≡ Some x → IsNamed x)
    → gen_with n f ≡ Some c → IsSound c
gen_by None f c bounds named h = absurd (cc h)
gen_by (Some n) None c bounds named h = absurd (cc h)
gen_by (Some n) (Some f) c bounds named h =
    let made : GenCommand = record { size = n; flow = f } in
    let same : made ≡ c = cc h in
    subst IsSound same (record { least = (bounds n refl).0; most = (bounds n refl).1; source = named f refl })

pub gen_sound : (ws : List (List ℕ)) (c : GenCommand) → gen_of ws ≡ Some c → IsSound c
gen_sound ws c h = by (are_taken gen ws) h where
  by : (b : Bool) → cond b (gen_from (given gen ws)) None ≡ Some c → IsSound c
  by true h =
      gen_by (number_of size (given gen ws)) (flow_on (option_map generated (text_of out (given gen ws))) (Some encoding_variant.Adjacent) (given gen ws)) c
      (λ k e. within k (first_of size.name (given gen ws)) e)
      (λ x e. named_by encoding_variant.Adjacent (is_set tracks (given gen ws)) (numbers_of (given gen ws)) (text_of library (given gen ws)) (text_of out (given gen ws)) x e) h
  by false h = absurd (cc h)
