-- The line of a tool's refusals, what words that spell a command come to, and words that no command is read from.
use Rattle.std.proofs.Common.{◌≡◌, ℕ, Bool, true, false, cond, List, [], ◌∷◌, Option, None, Some, option_map, IfSome, Err, IsErrOf, refl, sym, ◌∙◌, ap, subst}
use Rattle.std.specs.Cmp.Lexicographic.{bytes_decides}
use Rattle.vlsi_shelf.specs.Files.{Files}
use Rattle.tool_words.specs.Words.{is_word}
use Rattle.tool_words.specs.declared.words.WordsError.{WordsError}
use Rattle.tool_words.specs.declared.words.WordsError.TheVariants as words
use Rattle.flow_words.specs.declared.words.FlowCommand.{FlowCommand}
use Rattle.flow_words.specs.declared.words.GenCommand.{GenCommand}
use Rattle.flow_words.specs.Words.{IsWithinBounds, FlowsAreWithinBounds, GensAreWithinBounds, flow, flow_of, gen, gen_of}
use Rattle.flow_words.proofs.Generate.{gen_sound}
use Rattle.tool_run.specs.declared.words.Command.{Command as ToolCommand}
use Rattle.tool_run.specs.Tools.{command_of as tool_command_of}
use Rattle.tool_run.specs.Laws.{ToolComesFirst}
use Rattle.vlsi_shelf.specs.Seen.{SinkSeen}
use Rattle.tool_drive.specs.declared.status.Status.{Status}
use Rattle.tool_drive.specs.declared.status.Status.TheVariants as status
use Rattle.tool_drive.specs.Lines.{line_of as line_of_tool}
use Rattle.tool_drive.specs.Outside.{Outside, IsLine, IsUntouched}
use Rattle.tool_drive.specs.Table.{Caused, IsComplete, memory_complete}
use Rattle.tool_run.specs.Usage.{tool_of, line_of, status_of}
use Rattle.tool_run.specs.Answers.{IsAnswerTo, memory_answer}
use Rattle.flow_run.specs.declared.command.Command.{Command}
use Rattle.flow_run.specs.declared.command.Command.TheVariants as command
use Rattle.flow_run.specs.Commands.{command_of, word_of, as_flow, flow_in, as_gen, gen_in, as_tool, tool_in}
use Rattle.flow_run.specs.Flow.{flow_plan, flow_answers}
use Rattle.flow_run.specs.Causes.{IsHeadline, IsFree, Ends}
use Rattle.flow_run.specs.Laws.{WhatIsReadIsNeverRefused}
use Rattle.flow_run.specs.Generated.{IsFitting, IsRun, unwritten, IsGenHeadline, IsSourceSpared, IsGenFree, RunsHaveHeadlines, SourcesAreSpared, FreeRunsEnd}
use Rattle.flow_run.proofs.Rows.{ends_memory, if_some, headline_of, laid_free}

line_is : (words : List (List ℕ)) (s : Status) → (s ≡ status.Usage → ⊥) → line_of_tool (tool_of words) s ≡ line_of words s
line_is words status.Usage other = absurd (other refl)
line_is words _ other = refl

-- the first of the words that spell a command is the word of its tool
first_is : ToolComesFirst → (words : List (List ℕ)) (k : Command) → command_of words ≡ Some k → tool_of words ≡ word_of k
first_is law [] k h = absurd (cc h)
first_is law (word ∷ words) k h = by (is_word flow.word word) (is_word gen.word word) refl refl h where
  made : {A : Type 0} (make : A → Command) (o : Option A) → ((a : A) → word ≡ word_of (make a)) → option_map make o ≡ Some k → word ≡ word_of k
  made make None each e = absurd (cc e)
  made make (Some a) each e = let same : make a ≡ k = cc e in subst (λ (x : Command). word ≡ word_of x) same (each a)

  told : (o : Option ToolCommand) → tool_command_of (word ∷ words) ≡ o → option_map command.Tool o ≡ Some k → word ≡ word_of k
  told None f e = absurd (cc e)
  told (Some t) f e = let same : command.Tool t ≡ k = cc e in subst (λ (x : Command). word ≡ word_of x) same (ap tool_of (law (word ∷ words) t f).1)

  by : (a b : Bool) → is_word flow.word word ≡ a → is_word gen.word word ≡ b
      → cond a (option_map command.Flow (flow_of words)) (cond b (option_map command.Gen (gen_of words)) (option_map command.Tool (tool_command_of (word ∷ words)))) ≡ Some k → word ≡ word_of k
  by true b is other e = made command.Flow (flow_of words) (λ c. sym ((bytes_decides flow.word word).0 is)) e
  by false true other is e = made command.Gen (gen_of words) (λ c. sym ((bytes_decides gen.word word).0 is)) e
  by false false other another e = told (tool_command_of (word ∷ words)) refl e

-- the line behind the tool's word is the line that the words' refusal prints
pub line_by : ToolComesFirst → (words : List (List ℕ)) (k : Command) (s : Status) (before now : SinkSeen) → command_of words ≡ Some k → (s ≡ status.Usage → ⊥)
    → IsLine before now (line_of_tool (word_of k) s) → IsLine before now (line_of words s)
line_by law words k s before now is other h =
    subst (λ (l : List ℕ). IsLine before now l)
    (ap (λ (w : List ℕ). line_of_tool w s) (sym (first_is law words k is)) ∙ line_is words s other) h

pub headline_at : (words : List (List ℕ)) (k : Command) (before now : Outside) (s : Status) → command_of words ≡ Some k
    → IfSome (as_flow (Some k)) (λ c. Caused (flow_plan c) (flow_answers c) before now s) → IfSome (flow_in words) (λ c. s ≡ status.Accepted → IsHeadline c before now)
headline_at words k before now s is h =
    subst (λ (o : Option Command). IfSome (as_flow o) (λ c. s ≡ status.Accepted → IsHeadline c before now)) (sym is)
    (if_some (as_flow (Some k)) (λ c caused. headline_of c before now s caused) h)

pub free_at : WhatIsReadIsNeverRefused → (words : List (List ℕ)) (k : Command) (before now : Outside) (s : Status) → command_of words ≡ Some k
    → IfSome (as_flow (Some k)) (λ c. IsComplete (flow_plan c) (flow_answers c) before now s)
    → IfSome (flow_in words) (λ c. IsFree c before now → Ends c.tracks s)
free_at law words k before now s is h =
    subst (λ (o : Option Command). IfSome (as_flow o) (λ c. IsFree c before now → Ends c.tracks s)) (sym is)
    (if_some (as_flow (Some k)) (λ c complete free. laid_free law c before now s complete free) h)

-- ---- words that no command is read from

all_some : {A : Type 0} {P : A → Type 0} (o : Option A) → ((x : A) → P x) → IfSome o P
all_some None f = tt
all_some (Some x) f = f x

not_accepted : (e : WordsError) (s : Status) → s ≡ status_of e → s ≡ status.Accepted → ⊥
not_accepted words.Usage s is accepted = cc (sym is ∙ accepted)
not_accepted words.Memory s is accepted = cc (sym is ∙ accepted)

pub no_headline : (ws : List (List ℕ)) (e : WordsError) (before now : Outside) (s : Status) → s ≡ status_of e → IfSome (flow_in ws) (λ c. s ≡ status.Accepted → IsHeadline c before now)
no_headline ws e before now s is = all_some (flow_in ws) (λ c accepted. absurd (not_accepted e s is accepted))

pub none_free : (ws : List (List ℕ)) (e : WordsError) (before now : Outside) (s : Status) → s ≡ status_of e → (IsErrOf {T = Command} (Err e) words.Usage → command_of ws ≡ None)
    → IfSome (flow_in ws) (λ c. IsFree c before now → Ends c.tracks s)
none_free ws words.Usage before now s is none =
    subst (λ (o : Option Command). IfSome (as_flow o) (λ c. IsFree c before now → Ends c.tracks s)) (sym (none refl)) tt
none_free ws words.Memory before now s is none = all_some (flow_in ws) (λ c free. ends_memory c.tracks s is)

pub flow_unread : (ws : List (List ℕ)) (e : WordsError) (before now : Outside) (s : Status) → s ≡ status_of e → (IsErrOf {T = Command} (Err e) words.Usage → command_of ws ≡ None)
    → IfSome (flow_in ws) (λ c. IsComplete (flow_plan c) (flow_answers c) before now s)
flow_unread ws words.Usage before now s is none =
    subst (λ (o : Option Command). IfSome (as_flow o) (λ c. IsComplete (flow_plan c) (flow_answers c) before now s)) (sym (none refl)) tt
flow_unread ws words.Memory before now s is none =
    subst (λ (x : Status). IfSome (flow_in ws) (λ c. IsComplete (flow_plan c) (flow_answers c) before now x)) (sym is)
    (all_some (flow_in ws) (λ c. memory_complete (flow_plan c) (flow_answers c) before now))

pub none_answered : (ws : List (List ℕ)) (e : WordsError) (before now : Outside) (s : Status) → IsUntouched before now → s ≡ status_of e
    → (IsErrOf {T = Command} (Err e) words.Usage → command_of ws ≡ None) → IfSome (tool_in ws) (λ k. IsAnswerTo k before now s)
none_answered ws words.Usage before now s same is none = subst (λ (o : Option Command). IfSome (as_tool o) (λ k. IsAnswerTo k before now s)) (sym (none refl)) tt
none_answered ws words.Memory before now s same is none =
    subst (λ (x : Status). IfSome (tool_in ws) (λ k. IsAnswerTo k before now x)) (sym is)
    (all_some (tool_in ws) (λ k. memory_answer k before now same))

-- ---- words that a command is read from

pub answer_at : (ws : List (List ℕ)) (k : Command) (before now : Outside) (s : Status) → command_of ws ≡ Some k
    → IfSome (as_tool (Some k)) (λ t. IsAnswerTo t before now s) → IfSome (tool_in ws) (λ t. IsAnswerTo t before now s)
answer_at ws k before now s is h = subst (λ (o : Option Command). IfSome (as_tool o) (λ t. IsAnswerTo t before now s)) (sym is) h

-- ---- words that spell `gen`

gen_fits : GensAreWithinBounds → (ws : List (List ℕ)) (c : GenCommand) → command_of ws ≡ Some (command.Gen c) → IsFitting c
gen_fits bounds [] c h = absurd (cc h)
gen_fits bounds (word ∷ ws) c h = by (is_word flow.word word) (is_word gen.word word) h where
  other : {A : Type 0} (make : A → Command) (o : Option A) → ((a : A) → make a ≡ command.Gen c → ⊥) → option_map make o ≡ Some (command.Gen c) → IsFitting c
  other make None never e = absurd (cc e)
  other make (Some a) never e = absurd (never a (cc e))

  made : (o : Option GenCommand) → gen_of ws ≡ o → option_map command.Gen o ≡ Some (command.Gen c) → IsFitting c
  made None f e = absurd (cc e)
  made (Some x) f e =
      let same : x ≡ c = cc e in
      let s = gen_sound ws x f in
      subst IsFitting same (record { least = s.least; most = s.most; source = s.source; bounds = bounds ws x f })

  by : (a b : Bool) → cond a (option_map command.Flow (flow_of ws)) (cond b (option_map command.Gen (gen_of ws)) (option_map command.Tool (tool_command_of (word ∷ ws)))) ≡ Some (command.Gen c)
      → IsFitting c
  by true b e = other command.Flow (flow_of ws) (λ a f. cc f) e
  by false true e = made (gen_of ws) refl e
  by false false e = other command.Tool (tool_command_of (word ∷ ws)) (λ a f. cc f) e

pub fitting : GensAreWithinBounds → (ws : List (List ℕ)) (k : Command) → command_of ws ≡ Some k → IfSome (as_gen (Some k)) IsFitting
fitting bounds ws (command.Gen c) h = gen_fits bounds ws c h
fitting bounds ws (command.Flow c) h = tt
fitting bounds ws (command.Tool k) h = tt

-- and `flow`
flow_fits : FlowsAreWithinBounds → (ws : List (List ℕ)) (c : FlowCommand) → command_of ws ≡ Some (command.Flow c) → IsWithinBounds c
flow_fits bounds [] c h = absurd (cc h)
flow_fits bounds (word ∷ ws) c h = by (is_word flow.word word) (is_word gen.word word) h where
  other : {A : Type 0} (make : A → Command) (o : Option A) → ((a : A) → make a ≡ command.Flow c → ⊥) → option_map make o ≡ Some (command.Flow c) → IsWithinBounds c
  other make None never e = absurd (cc e)
  other make (Some a) never e = absurd (never a (cc e))

  made : (o : Option FlowCommand) → flow_of ws ≡ o → option_map command.Flow o ≡ Some (command.Flow c) → IsWithinBounds c
  made None f e = absurd (cc e)
  made (Some x) f e =
      let same : x ≡ c = cc e in
      subst IsWithinBounds same (bounds ws x f)

  by : (a b : Bool) → cond a (option_map command.Flow (flow_of ws)) (cond b (option_map command.Gen (gen_of ws)) (option_map command.Tool (tool_command_of (word ∷ ws)))) ≡ Some (command.Flow c)
      → IsWithinBounds c
  by true b e = made (flow_of ws) refl e
  by false true e = other command.Gen (gen_of ws) (λ a f. cc f) e
  by false false e = other command.Tool (tool_command_of (word ∷ ws)) (λ a f. cc f) e

pub within_bounds : FlowsAreWithinBounds → (ws : List (List ℕ)) (k : Command) → command_of ws ≡ Some k → IfSome (as_flow (Some k)) IsWithinBounds
within_bounds bounds ws (command.Flow c) h = flow_fits bounds ws c h
within_bounds bounds ws (command.Gen c) h = tt
within_bounds bounds ws (command.Tool k) h = tt

pub run_at : (ws : List (List ℕ)) (k : Command) (before now : Outside) (s : Status) → command_of ws ≡ Some k → IfSome (as_gen (Some k)) (λ c. IsRun c before now s)
    → IfSome (gen_in ws) (λ c. IsRun c before now s)
run_at ws k before now s is h = subst (λ (o : Option Command). IfSome (as_gen o) (λ c. IsRun c before now s)) (sym is) h

both : {A : Type 0} {P Q R : A → Type 0} (o : Option A) → ((x : A) → P x → Q x → R x) → IfSome o P → IfSome o Q → IfSome o R
both None f p q = tt
both (Some x) f p q = f x p q

pub gen_headline_at : GensAreWithinBounds → RunsHaveHeadlines → (ws : List (List ℕ)) (k : Command) (before now : Outside) (s : Status) → command_of ws ≡ Some k
    → IfSome (as_gen (Some k)) (λ c. IsRun c before now s) → IfSome (gen_in ws) (λ c. s ≡ status.Accepted → IsGenHeadline c before now)
gen_headline_at bounds law ws k before now s is h =
    subst (λ (o : Option Command). IfSome (as_gen o) (λ c. s ≡ status.Accepted → IsGenHeadline c before now)) (sym is)
    (both (as_gen (Some k)) (λ c fit run accepted. law c before now s fit run accepted) (fitting bounds ws k is) h)

pub spared_at : GensAreWithinBounds → SourcesAreSpared → (ws : List (List ℕ)) (k : Command) (before now : Outside) (s : Status) → command_of ws ≡ Some k
    → IfSome (as_gen (Some k)) (λ c. IsRun c before now s) → IfSome (gen_in ws) (λ c. IsSourceSpared c before s)
spared_at bounds law ws k before now s is h =
    subst (λ (o : Option Command). IfSome (as_gen o) (λ c. IsSourceSpared c before s)) (sym is)
    (both (as_gen (Some k)) (λ c fit run. law c before now s fit run) (fitting bounds ws k is) h)

pub gen_free_at : GensAreWithinBounds → FreeRunsEnd → (ws : List (List ℕ)) (k : Command) (before now : Outside) (s : Status) → command_of ws ≡ Some k
    → IfSome (as_gen (Some k)) (λ c. IsRun c before now s) → IfSome (gen_in ws) (λ c. IsGenFree c before now → Ends c.flow.tracks s)
gen_free_at bounds law ws k before now s is h =
    subst (λ (o : Option Command). IfSome (as_gen o) (λ c. IsGenFree c before now → Ends c.flow.tracks s)) (sym is)
    (both (as_gen (Some k)) (λ c fit run free. law c before now s fit run free) (fitting bounds ws k is) h)

pub never_run : (ws : List (List ℕ)) (e : WordsError) (before now : Outside) (s : Status) → IsUntouched before now → s ≡ status_of e
    → (IsErrOf {T = Command} (Err e) words.Usage → command_of ws ≡ None) → IfSome (gen_in ws) (λ c. IsRun c before now s)
never_run ws words.Usage before now s same is none = subst (λ (o : Option Command). IfSome (as_gen o) (λ c. IsRun c before now s)) (sym (none refl)) tt
never_run ws words.Memory before now s same is none =
    subst (λ (x : Status). IfSome (gen_in ws) (λ c. IsRun c before now x)) (sym is) (all_some (gen_in ws) (λ c. unwritten same))

pub no_gen_headline : (ws : List (List ℕ)) (e : WordsError) (before now : Outside) (s : Status) → s ≡ status_of e
    → IfSome (gen_in ws) (λ c. s ≡ status.Accepted → IsGenHeadline c before now)
no_gen_headline ws e before now s is = all_some (gen_in ws) (λ c accepted. absurd (not_accepted e s is accepted))

any_files : (told : Option Files) → IfSome told (λ old. Unit {0})
any_files None = tt
any_files (Some old) = tt

unread_spared : (c : GenCommand) (before : Outside) (e : WordsError) → IsSourceSpared c before (status_of e)
unread_spared c before words.Usage = any_files before.files
unread_spared c before words.Memory = any_files before.files

pub no_words_spared : (ws : List (List ℕ)) (e : WordsError) (before : Outside) (s : Status) → s ≡ status_of e → IfSome (gen_in ws) (λ c. IsSourceSpared c before s)
no_words_spared ws e before s is = all_some (gen_in ws) (λ c. subst (λ (x : Status). IsSourceSpared c before x) (sym is) (unread_spared c before e))

pub no_gen_free : (ws : List (List ℕ)) (e : WordsError) (before now : Outside) (s : Status) → s ≡ status_of e → (IsErrOf {T = Command} (Err e) words.Usage → command_of ws ≡ None)
    → IfSome (gen_in ws) (λ c. IsGenFree c before now → Ends c.flow.tracks s)
no_gen_free ws words.Usage before now s is none =
    subst (λ (o : Option Command). IfSome (as_gen o) (λ c. IsGenFree c before now → Ends c.flow.tracks s)) (sym (none refl)) tt
no_gen_free ws words.Memory before now s is none = all_some (gen_in ws) (λ c free. ends_memory c.flow.tracks s is)
