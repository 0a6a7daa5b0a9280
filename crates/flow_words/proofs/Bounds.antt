-- The numbers that words spell are within the bounds of their options.
use Rattle.std.proofs.Common.{◌≡◌, ℕ, ◌≤◌, Bool, true, false, cond, ◌&&◌, nat_le, List, Option, None, Some, option_map, refl, subst, arith}
use Rattle.std.specs.Prelude.{IfSome}
use Rattle.std.proofs.lemmas.Bool.{leb-true}
use Rattle.vlsi_base.specs.Number.{value_of}
use Rattle.clap.specs.Words.{first_of}
use Rattle.tool_words.specs.declared.values.Encoding.{Encoding}
use Rattle.tool_words.specs.declared.values.Encoding.TheVariants as encoding_variant
use Rattle.tool_words.specs.Table.{library, out, seed, nodes, fanout}
use Rattle.tool_words.specs.Arguments.{Given, given}
use Rattle.tool_words.specs.Values.{is_numeral, number_within, number_or_default, number_or_none, number_of, number_if_given, is_set, text_of, source_of, encoding_of}
use Rattle.tool_words.specs.Spelling.{are_taken}
use Rattle.flow_words.specs.declared.words.Numbers.{Numbers}
use Rattle.flow_words.specs.declared.words.FlowCommand.{FlowCommand}
use Rattle.flow_words.specs.declared.words.GenCommand.{GenCommand}
use Rattle.flow_words.specs.Words.{flow, gen, size, rows, metals, moves, tracks, numbers_with, numbers_of, flow_with, flow_on, gen_with, generated, flow_from, gen_from, IsWithinBounds, FlowsAreWithinBounds, GensAreWithinBounds}

-- a number that is given lies within its bounds
within_by : (least most : ℕ) (text : List ℕ) (n : ℕ) → number_within least most text ≡ Some n → (least ≤ n) × (n ≤ most)
within_by least most text n h = by (is_numeral text) (nat_le least (value_of text)) (nat_le (value_of text) most) refl refl h where
  by : (a b d : Bool) → nat_le least (value_of text) ≡ b → nat_le (value_of text) most ≡ d → cond ((a && b) && d) (Some (value_of text)) None ≡ Some n
      → (least ≤ n) × (n ≤ most)
  by true true true e f h =
      let same : value_of text ≡ n = cc h in
      subst (λ (k : ℕ). (least ≤ k) × (k ≤ most)) same (leb-true least (value_of text) e, leb-true (value_of text) most f)
  by true true false e f h = absurd (cc h)
  by true false d e f h = absurd (cc h)
  by false b d e f h = absurd (cc h)

-- so do the metals, which are the most where they are left out
metals_within : (text : Option (List ℕ)) (n : ℕ) → number_or_default metals.form text ≡ Some n → (4 ≤ n) × (n ≤ 6)
metals_within None n h =
    let same : 6 ≡ n = cc h in
    subst (λ (k : ℕ). (4 ≤ k) × (k ≤ 6)) same (omega arith, omega arith)
metals_within (Some text) n h = within_by 4 6 text n h

-- and the rows, where they are given
abbrev AreRows : Option ℕ → Type 0
AreRows r = IfSome r (λ k. (1 ≤ k) × (k ≤ 256))

rows_within : (text : Option (List ℕ)) (r : Option ℕ) → number_or_none rows.form text ≡ Some r → AreRows r
rows_within None r h =
    let same : None ≡ r = cc h in
    subst AreRows same tt
rows_within (Some text) r h = by (number_within 1 256 text) refl h where
  by : (found : Option ℕ) → number_within 1 256 text ≡ found → option_map (λ k. Some k) found ≡ Some r → AreRows r
  by None e h = absurd (cc h)
  by (Some k) e h =
      let same : Some k ≡ r = cc h in
      subst AreRows same (within_by 1 256 text k e)

-- numbers of rows and metals that are within their bounds
record AreWithin (n : Numbers) : Type 0 where
  rows : AreRows n.rows
  metals : (4 ≤ n.metals) × (n.metals ≤ 6)

numbers_within : (r : Option (Option ℕ)) (m s v d f : Option ℕ) (n : Numbers) → ((k : Option ℕ) → r ≡ Some k → AreRows k)
    → ((k : ℕ) → m ≡ Some k → (4 ≤ k) × (k ≤ 6)) → numbers_with r m s v d f ≡ Some n → AreWithin n
numbers_within None m s v d f n good fit h = absurd (cc h)
numbers_within (Some r) None s v d f n good fit h = absurd (cc h)
numbers_within (Some r) (Some m) None v d f n good fit h = absurd (cc h)
numbers_within (Some r) (Some m) (Some s) None d f n good fit h = absurd (cc h)
numbers_within (Some r) (Some m) (Some s) (Some v) None f n good fit h = absurd (cc h)
numbers_within (Some r) (Some m) (Some s) (Some v) (Some d) None n good fit h = absurd (cc h)
numbers_within (Some r) (Some m) (Some s) (Some v) (Some d) (Some f) n good fit h =
    let made : Numbers = record { rows = r; metals = m; seed = s; moves = v; nodes = d; fanout = f } in
    let same : made ≡ n = cc h in
    subst AreWithin same (record { rows = good r refl; metals = fit m refl })

given_within : (g : Given) (n : Numbers) → numbers_of g ≡ Some n → AreWithin n
given_within g n h =
    numbers_within (number_if_given rows g) (number_of metals g) (number_of seed g) (number_of moves g) (number_of nodes g) (number_of fanout g) n
    (λ k e. rows_within (first_of rows.name g) k e) (λ k e. metals_within (first_of metals.name g) k e) h

flow_within : (s : Option (List ℕ)) (e : Option Encoding) (t : Bool) (ns : Option Numbers) (l o : Option (List ℕ)) (c : FlowCommand)
    → ((n : Numbers) → ns ≡ Some n → AreWithin n) → flow_with s e t ns l o ≡ Some c → IsWithinBounds c
flow_within None e t ns l o c fit h = absurd (cc h)
flow_within (Some s) None t ns l o c fit h = absurd (cc h)
flow_within (Some s) (Some e) t None l o c fit h = absurd (cc h)
flow_within (Some s) (Some e) t (Some n) None o c fit h = absurd (cc h)
flow_within (Some s) (Some e) t (Some n) (Some l) None c fit h = absurd (cc h)
flow_within (Some s) (Some e) t (Some n) (Some l) (Some o) c fit h =
    let made : FlowCommand = record {
      source = s;
      library = l;
      out = o;
      encoding = e;
      tracks = t;
      rows = n.rows;
      metals = n.metals;
      seed = n.seed;
      moves = n.moves;
      nodes = n.nodes;
      fanout = n.fanout;
    } in
    let same : made ≡ c = cc h in
    subst IsWithinBounds same (record { rows = (fit n refl).rows; metals = (fit n refl).metals })

on_within : (s : Option (List ℕ)) (e : Option Encoding) (g : Given) (c : FlowCommand) → flow_on s e g ≡ Some c → IsWithinBounds c
on_within s e g c h = flow_within s e (is_set tracks g) (numbers_of g) (text_of library g) (text_of out g) c (given_within g) h

pub flows_within : FlowsAreWithinBounds
flows_within ws c h = by (are_taken flow ws) h where
  by : (b : Bool) → cond b (flow_from (given flow ws)) None ≡ Some c → IsWithinBounds c
  by true h = on_within (source_of flow.endings (given flow ws)) (encoding_of (given flow ws)) (given flow ws) c h
  by false h = absurd (cc h)

gen_within : (n : Option ℕ) (f : Option FlowCommand) (c : GenCommand) → ((x : FlowCommand) → f ≡ Some x → IsWithinBounds x) → gen_with n f ≡ Some c
    → IsWithinBounds c.flow
gen_within None f c fit h = absurd (cc h)
gen_within (Some n) None c fit h = absurd (cc h)
gen_within (Some n) (Some f) c fit h =
    let made : GenCommand = record { size = n; flow = f } in
    let same : made ≡ c = cc h in
    subst (λ (k : GenCommand). IsWithinBounds k.flow) same (fit f refl)

pub gens_within : GensAreWithinBounds
gens_within ws c h = by (are_taken gen ws) h where
  by : (b : Bool) → cond b (gen_from (given gen ws)) None ≡ Some c → IsWithinBounds c.flow
  by true h =
      gen_within (number_of size (given gen ws)) (flow_on (option_map generated (text_of out (given gen ws))) (Some encoding_variant.Adjacent) (given gen ws)) c
      (λ x e. on_within (option_map generated (text_of out (given gen ws))) (Some encoding_variant.Adjacent) (given gen ws) x e) h
  by false h = absurd (cc h)
