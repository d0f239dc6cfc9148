-- What lines and items say, as the definitions see them: classes in units of UTF-16, files by name.
use Rattle.std.specs.Prelude.{ℕ, List}
use Rattle.std.specs.Borrow.{Bor}
use Rattle.jv_model.specs.Updates as updates
use Rattle.jv_model.specs.Utf16.{units_of_utf8}
use Rattle.manifest_model.specs.Items as items
use Rattle.manifest_model.specs.ManifestLines as lines
use Rattle.manifest_model.specs.Manifest as manifests
use Rattle.manifest_reader.specs.declared.item.ItemForm.{ItemForm}
use Rattle.manifest_reader.specs.declared.item.ItemForm.TheVariants as forms
use Rattle.manifest_reader.specs.declared.item.ClassItem.{ClassItem}
use Rattle.manifest_reader.specs.declared.item.When.{When}
use Rattle.manifest_reader.specs.declared.item.When.TheVariants as times
use Rattle.manifest_reader.specs.declared.item.UpdateItem.{UpdateItem}
use Rattle.manifest_reader.specs.declared.item.ManifestItem.{ManifestItem}
use Rattle.manifest_reader.specs.declared.item.ManifestItem.TheVariants as brought
use Rattle.manifest_reader.specs.declared.class_line.ClassLine.{ClassLine}
use Rattle.manifest_reader.specs.declared.class_line.ClassLine.TheVariants as class_lines
use Rattle.manifest_reader.specs.declared.line.ManifestLine.{ManifestLine}
use Rattle.manifest_reader.specs.declared.line.ManifestLine.TheVariants as manifest_lines

-- a class's name, in units
abbrev pub name_of : Bor (List ℕ) → List ℕ
name_of name = units_of_utf8 name.now

abbrev pub form_of : ItemForm → items.ItemForm
form_of (forms.InFile file) = items.in_file file.now
form_of (forms.InLines text) = items.in_lines text.now

abbrev pub class_of : ClassItem → items.ClassItem
class_of item = record { line = item.line; class = name_of item.class; form = form_of item.form }

abbrev pub when_of : When → updates.When
when_of (times.AtStep step) = updates.at_step step
when_of times.OnCall = updates.on_call

abbrev pub update_of : UpdateItem → manifests.UpdateItem
update_of item = record { line = item.line; when = when_of item.when; form = form_of item.form }

abbrev pub item_of : ManifestItem → manifests.ManifestItem
item_of (brought.Class item) = manifests.class_item (class_of item)
item_of (brought.Update item) = manifests.update_item (update_of item)

-- ---- lines

abbrev pub class_line_of : ClassLine → items.ClassLine
class_line_of (class_lines.InFile class file) = items.of_file (name_of class) file.now
class_line_of (class_lines.InLines class) = items.of_lines (name_of class)

abbrev pub line_of : ManifestLine → lines.ManifestLine
line_of (manifest_lines.Main class) = lines.names_main (name_of class)
line_of (manifest_lines.Class line) = lines.names_class (class_line_of line)
line_of (manifest_lines.UpdateInFile file when) = lines.names_update file.now (when_of when)
line_of (manifest_lines.UpdateInLines when) = lines.brings_update (when_of when)
