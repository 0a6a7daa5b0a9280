-- Entries of the code, as the definitions see them.
use Rattle.std.specs.Prelude.{ℕ, List, map}
use Rattle.std.specs.Borrow.{Bor}
use Rattle.tool_words.specs.declared.table.Form.{Form as FormOf}
use Rattle.tool_words.specs.declared.table.Form.TheVariants as forms
use Rattle.tool_words.specs.declared.table.Setting.{Setting as SettingOf}
use Rattle.tool_words.specs.declared.table.Entry.{Entry as EntryOf}
use Rattle.tool_words.specs.Table.{Form, Flag, Text, Ending, Number, Setting, Entry}

abbrev pub form_view : FormOf → Form
form_view forms.Flag = Flag
form_view forms.Text = Text
form_view (forms.Ending ending) = Ending ending.now
form_view (forms.Number least most default) = Number least most default

abbrev pub setting_view : SettingOf → Setting
setting_view s = record { name = s.name.now; letter = s.letter; value = s.value.now; required = s.required; form = form_view s.form }

abbrev pub settings_view : List SettingOf → List Setting
settings_view settings = map setting_view settings

abbrev pub texts_view : List (Bor (List ℕ)) → List (List ℕ)
texts_view texts = map (λ text. text.now) texts

abbrev pub entry_view : EntryOf → Entry
entry_view e = record { word = e.word.now; endings = texts_view e.endings.now; settings = settings_view e.settings.now }
