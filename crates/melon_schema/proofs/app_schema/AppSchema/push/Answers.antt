use Rattle.std.proofs.Common.{◌≡◌, ◌∙◌, ◌++◌, ◌∷◌, [], List, None, map, ap, sym, subst, string_bytes}
use Rattle.std.proofs.lemmas.List.{map_push}
use Rattle.std.specs.List.{AllByRecursion}
use Rattle.melon_schema.specs.Places.{table_named}
use Rattle.melon_schema.specs.Seen.{SeenSchema}
use Rattle.melon_schema.specs.Sound.{IsSoundSchema}
use Rattle.melon_schema.specs.declared.schema.TableSchema.{TableSchema}
use Rattle.melon_schema.proofs.Named.{Entry, inserted_last, named_push}
use Rattle.melon_schema.proofs.Sounding.{table_more}
use Rattle.melon_schema.proofs.app_schema.AppSchema.push.Goals as goal

pub invariant_of-self-2 : goal.invariant_of-self-2
invariant_of-self-2 c =
    let es = c.self.inside.tables.entries in let table = c.args.table in let key = c.in_ok-name.name in
    let same : string_bytes key ≡ table.name = c.in_ok-name.ensures.ok ∙ c.as_str.ensures in
    let none : table_named table.name (map (λ e. e.1) es) ≡ None = ap (λ s. table_named table.name s.tables) c.self.view_is ∙ c.requires.free in
    let after : c.insert.new.self.entries ≡ es ++ (key, table) ∷ [] = c.in_ok-insert.ensures.entries ∙ inserted_last key table es c.self.invariant.named same none in
    let named : AllByRecursion (λ e. string_bytes e.0 ≡ e.1.name) c.insert.new.self.entries = rw after (named_push key table es c.self.invariant.named same) in
    let more = table_more (map (λ e. e.1) es) table c.self.inside.version c.self.invariant.sound none c.requires.sound in
    let tables : map (λ (e : Entry). e.1) c.insert.new.self.entries ≡ map (λ (e : Entry). e.1) es ++ table ∷ [] = ap (λ (ts : List Entry). map (λ e. e.1) ts) after ∙ map_push (λ (e : Entry). e.1) es (key, table) in
    record {
      named = named;
      sound = subst (λ (ts : List TableSchema). IsSoundSchema (record { version = c.self.inside.version; tables = ts })) (sym tables) more;
    }

pub returns : goal.returns
returns c =
    let es = c.self.inside.tables.entries in let table = c.args.table in let key = c.in_ok-name.name in
    let same : string_bytes key ≡ table.name = c.in_ok-name.ensures.ok ∙ c.as_str.ensures in
    let none : table_named table.name (map (λ e. e.1) es) ≡ None = ap (λ s. table_named table.name s.tables) c.self.view_is ∙ c.requires.free in
    let after : c.insert.new.self.entries ≡ es ++ (key, table) ∷ [] = c.in_ok-insert.ensures.entries ∙ inserted_last key table es c.self.invariant.named same none in
    ap (λ (ts : List Entry). record { version = c.self.inside.version; tables = map (λ e. e.1) ts }) after
    ∙ ap (λ (ts : List TableSchema). record { version = c.self.inside.version; tables = ts }) (map_push (λ (e : Entry). e.1) es (key, table))
    ∙ ap (λ (s : SeenSchema). record { version = s.version; tables = s.tables ++ table ∷ [] }) c.self.view_is
