-- What the lines of apps ask of the keeper, do and print, checked in the order of their forms.
use Rattle.std.specs.Prelude.{ℕ, ◌^◌, ◌-◌, min, sum_by, List, [], ◌∷◌, ◌++◌, length, map, position, get_or, set, slice_get, zero, suc, option_map, not, nat_le, Option, Some, None, is_some, Result, Ok, Err, bytes_eq, if◌then◌else◌}
use Rattle.std.specs.List.{remove}
use Rattle.serde_json.specs.Data.{Data}
use Rattle.melon_schema.specs.Names.{is_name, is_id}
use Rattle.melon_schema.specs.Json.{each}
use Rattle.melon_schema.specs.Places.{table_named, column_named}
use Rattle.melon_schema.specs.Schema.{schema_of}
use Rattle.melon_schema.specs.Seen.{SeenSchema}
use Rattle.melon_schema.specs.declared.schema.ColumnSchema.{ColumnSchema}
use Rattle.melon_schema.specs.declared.schema_fault.SchemaFault.{SchemaFault}
use Rattle.melon_raw.specs.declared.raw.Raw.{Raw}
use Rattle.melon_raw.specs.Encoding.{encoding}
use Rattle.melon_raw.specs.Rows.{Rows, table_at}
use Rattle.melon_outside.specs.declared.kept.Kept.{Kept}
use Rattle.melon_outside.specs.declared.kept.OpenFault.{OpenFault}
use Rattle.melon_change.specs.Forms.{ops_of}
use Rattle.melon_change.specs.declared.op.Op.{Op}
use Rattle.melon_change.specs.declared.op.OpsFault.{OpsFault}
use Rattle.melon_queue.specs.Queues.{holder_of, holds, entered, nested, quit}
use Rattle.melon_queue.specs.Seen.{SeenQueue}
use Rattle.melon_queue.specs.declared.queue.Left.{Left}
use Rattle.melon_queue.specs.declared.queue.Left.TheVariants as left
use Rattle.melon_queue.specs.declared.queue.QueueFault.{QueueFault}
use Rattle.melon_queue.specs.declared.queue.QueueFault.TheVariants.{NotHolder}
use Rattle.melon_board.specs.Stores.{SeenStore, store_key}
use Rattle.melon_board.specs.Opening.{open_plan}
use Rattle.melon_board.specs.Plans.{Plan, write_plan}
use Rattle.melon_board.specs.declared.fault.WriteFault.{WriteFault}
use Rattle.melon_query.specs.declared.query.Query.{Query}
use Rattle.melon_query.specs.declared.query_fault.QueryFault.{QueryFault}
use Rattle.melon_query.specs.Reading.{query_of}
use Rattle.melon_query.specs.Fresh.{fresh}
use Rattle.melon_views.specs.declared.emission.Shape.{Shape}
use Rattle.melon_views.specs.declared.emission.Shape.TheVariants as shapes
use Rattle.melon_views.specs.declared.parent.Parent.{Parent}
use Rattle.melon_relation.specs.declared.relation.Relation.{Relation}
use Rattle.melon_relation.specs.declared.fault.RelationFault.{RelationFault}
use Rattle.melon_relation.specs.Relations.{related, parent_told}
use Rattle.melon_relation.specs.Children.{children_told}
use Rattle.melon_script.specs.declared.line.LineShape.{LineShape}
use Rattle.melon_script.specs.declared.line.LineShape.TheVariants as given_shapes
use Rattle.melon_script.specs.SeenLine as lines
use Rattle.melon_script.specs.SeenLine.{SeenLine}
use Rattle.melon_script.specs.declared.item.Item.{Item}
use Rattle.melon_script.specs.declared.item.Item.TheVariants as items
use Rattle.melon_machine.specs.Calls.{Calls, Done, Load, asks, with_end}
use Rattle.melon_machine.specs.State.{App, KeptApp, Kind, Watch, Answer, Owner, Observer, named, history_of, observed_by, with_history, as_kept, app_kept, apps_kept}
use Rattle.melon_machine.specs.Outcomes.{Stepped, ends_with, stepped, stepped_as, on_table}
use Rattle.melon_machine.specs.Showing.{given_parent, opening_item, turn_items}
use Rattle.melon_machine.specs.Refusals.{app_refusal, schema_refusal, table_refusal, query_refusal, keeper_refusal, open_refusal, ops_refusal, write_refusal, queue_refusal, writer_refusal, shape_refusal, observer_refusal, relation_refusal, id_refusal}

-- ---- what is asked of rows

-- how many rows there are in all tables; a count at its type's end stands still
abbrev pub row_count : Rows → ℕ
row_count rows = min (sum_by length rows) (2 ^ 64 - 1)

-- the rows of the table at a place
abbrev pub rows_at : SeenStore → ℕ → List Raw
rows_at store t = get_or store.rows t []

-- and their encodings
abbrev pub encodings_at : SeenStore → ℕ → List (List ℕ)
encodings_at store t = map (encoding (table_at store.schema.tables t)) (rows_at store t)

-- the same of one app
pub record Told (A : Type 0) : Type 0 where
  pub app : A
  pub items : List Item

abbrev pub told : {A : Type 0} → A → Item → Told A
told app item = record { app = app; items = item ∷ [] }

-- the app is put back in its place
abbrev pub put_back : {A : Type 0} → List A → ℕ → Told A → Stepped (List A)
put_back apps place t = ends_with (set apps place t.app) t.items

-- who enters an empty queue holds it
abbrev pub enter_item : List ℕ → List ℕ → ℕ → Item
enter_item name writer zero = items.EnterHolds name writer
enter_item name writer (suc n) = items.EnterWaits name writer (suc n)

abbrev pub next_item : List ℕ → List ℕ → Option (List ℕ) → Item
next_item name writer None = items.LeaveFree name writer
next_item name writer (Some next) = items.LeaveNext name writer next

-- what is told of a writer that leaves this queue, which is then that one
abbrev pub leave_item : List ℕ → List ℕ → SeenQueue → Left → SeenQueue → Item
leave_item name writer was (left.Depth depth) now = items.LeaveDepth name writer depth
leave_item name writer was left.Next now = next_item name writer (holder_of now)
leave_item name writer was left.Free now = items.LeaveFree name writer
leave_item name writer was left.NotHolder now = queue_refusal writer (NotHolder (holder_of was))

-- the writer is the holder
abbrev pub queue_fault : List ℕ → SeenQueue → Option Item
queue_fault writer queue = if not (is_id writer) then Some (writer_refusal writer) else
    (if holds writer queue then None else Some (queue_refusal writer (NotHolder (holder_of queue))))

-- a batch is made by the holder; one without a writer is a block of its own, which needs that nobody holds the queue
abbrev pub write_fault : Option (List ℕ) → SeenQueue → Option Item
write_fault (Some writer) queue = queue_fault writer queue
write_fault None queue = option_map (λ holder. queue_refusal [] (NotHolder (Some holder))) (holder_of queue)

module _ {A : Type 0} (kind : Kind A) where
  abbrev pub place_of : List ℕ → List A → Option ℕ
  place_of name apps = position (λ app. bytes_eq (kind.store app).name name) apps

  -- one item is printed, and nothing is changed
  abbrev pub says : List A → Item → Calls (Stepped (List A))
  says apps item = Done (stepped apps item)

  -- ---- opening and closing

  abbrev pub with_opened : List A → List ℕ → SeenStore → Stepped (List A)
  with_opened apps name store = stepped (apps ++ kind.opened store ∷ []) (items.Open name (row_count store.rows) store.last)

  -- the values that have none yet are committed first
  abbrev pub opens_by : List A → List ℕ → Result Plan OpenFault → Calls (Stepped (List A))
  opens_by apps name (Ok plan) = asks (store_key name) plan.batch (with_opened apps name plan.after) (stepped apps keeper_refusal)
  opens_by apps name (Err fault) = says apps (open_refusal fault)

  abbrev pub opens_over : List A → List ℕ → SeenSchema → Option Kept → Calls (Stepped (List A))
  opens_over apps name schema None = says apps keeper_refusal
  opens_over apps name schema (Some kept) = opens_by apps name (open_plan name schema kept)

  abbrev pub opens_under : List A → List ℕ → Result SeenSchema SchemaFault → Calls (Stepped (List A))
  opens_under apps name (Err fault) = says apps (schema_refusal fault)
  opens_under apps name (Ok schema) = Load (store_key name) (opens_over apps name schema)

  -- 4 a bad name, 1 already open, 3 four are open
  abbrev pub open_fault : List A → List ℕ → Option ℕ
  open_fault apps name = if not (is_name name) then Some 4 else
      (if is_some (place_of name apps) then Some 1 else
      (if nat_le 4 (length apps) then Some 3 else None))

  abbrev pub opens_unless : List A → List ℕ → Data → Option ℕ → Calls (Stepped (List A))
  opens_unless apps name json (Some number) = says apps (app_refusal number name)
  opens_unless apps name json None = opens_under apps name (schema_of json)

  abbrev pub open_step : List A → List ℕ → Data → Calls (Stepped (List A))
  open_step apps name json = opens_unless apps name json (open_fault apps name)

  abbrev pub closes : List A → List ℕ → Option ℕ → Stepped (List A)
  closes apps name None = stepped apps (app_refusal 2 name)
  closes apps name (Some place) = stepped (remove apps place) (items.Close name)

  abbrev pub close_step : List A → List ℕ → Stepped (List A)
  close_step apps name = closes apps name (place_of name apps)

  -- ---- an open app

  abbrev pub on_found : List A → List ℕ → (A → Calls (Told A)) → ℕ → Option A → Calls (Stepped (List A))
  on_found apps name does place None = says apps (app_refusal 2 name)
  on_found apps name does place (Some app) = with_end (put_back apps place) (does app)

  abbrev pub on_place : List A → List ℕ → (A → Calls (Told A)) → Option ℕ → Calls (Stepped (List A))
  on_place apps name does None = says apps (app_refusal 2 name)
  on_place apps name does (Some place) = on_found apps name does place (slice_get apps place)

  -- what is done with the app of that name, or the refusal that it isn't open
  abbrev pub on_app : List A → List ℕ → (A → Calls (Told A)) → Calls (Stepped (List A))
  on_app apps name does = on_place apps name does (place_of name apps)

  -- ---- writing

  -- the keeper is asked where the batch makes an entry
  abbrev pub writes_by : List ℕ → A → Result Plan WriteFault → Calls (Told A)
  writes_by name app (Ok plan) =
      asks (store_key (kind.store app).name) plan.batch (told (kind.grown app plan.after) (items.Write name (length plan.after.entries))) (told app keeper_refusal)
  writes_by name app (Err fault) = Done (told app (write_refusal fault))

  abbrev pub writes : List ℕ → A → Result (List Op) OpsFault → Calls (Told A)
  writes name app (Ok ops) = writes_by name app (write_plan (kind.store app) ops)
  writes name app (Err fault) = Done (told app (ops_refusal fault))

  abbrev pub writes_unless : List ℕ → Data → A → Option Item → Calls (Told A)
  writes_unless name json app (Some refusal) = Done (told app refusal)
  writes_unless name json app None = writes name app (ops_of json)

  -- the queue is checked before the operations are read
  abbrev pub write_app : List ℕ → Data → Option (List ℕ) → A → Calls (Told A)
  write_app name json writer app = writes_unless name json app (write_fault writer (kind.queue app))

  -- ---- the queue of writers

  abbrev pub entered_as : List ℕ → List ℕ → A → Result (ℕ × SeenQueue) QueueFault → Told A
  entered_as name writer app (Ok entered) = told (kind.queued app entered.1) (enter_item name writer entered.0)
  entered_as name writer app (Err fault) = told app (queue_refusal writer fault)

  abbrev pub enter_app : List ℕ → List ℕ → A → Told A
  enter_app name writer app = if is_id writer then entered_as name writer app (entered writer (kind.queue app)) else told app (writer_refusal writer)

  abbrev pub nested_as : List ℕ → List ℕ → A → Result (ℕ × SeenQueue) QueueFault → Told A
  nested_as name writer app (Ok nested) = told (kind.queued app nested.1) (items.Nest name writer nested.0)
  nested_as name writer app (Err fault) = told app (queue_refusal writer fault)

  abbrev pub nest_app : List ℕ → List ℕ → A → Told A
  nest_app name writer app = if is_id writer then nested_as name writer app (nested writer (kind.queue app)) else told app (writer_refusal writer)

  abbrev pub left_as : List ℕ → List ℕ → A → Left × SeenQueue → Told A
  left_as name writer app left = told (kind.queued app left.1) (leave_item name writer (kind.queue app) left.0 left.1)

  abbrev pub leave_app : List ℕ → List ℕ → A → Told A
  leave_app name writer app = if is_id writer then left_as name writer app (quit writer (kind.queue app)) else told app (writer_refusal writer)

-- ---- reading

abbrev pub answered : List ℕ → SeenStore → Result Query QueryFault → Item
answered name store (Ok query) = items.Fetch name (fresh query store.rows)
answered name store (Err fault) = query_refusal fault

-- the query's answer, evaluated afresh
abbrev pub fetched : List ℕ → List ℕ → Data → SeenStore → Item
fetched name table json store = on_table table (λ t. answered name store (query_of store.schema.tables table json)) (table_named table store.schema.tables)

abbrev pub rows_shown : List ℕ → List ℕ → SeenStore → Item
rows_shown name table store = on_table table (λ t. items.Rows name table (encodings_at store t)) (table_named table store.schema.tables)

-- ---- relations

-- what is shown of a record, unless its id is none
abbrev pub on_id : List ℕ → Item → Item
on_id id shows = if is_id id then shows else id_refusal

abbrev pub parent_item : List ℕ → SeenStore → ℕ → Result Parent RelationFault → Item
parent_item name store to (Ok parent) = items.Parent name (given_parent (table_at store.schema.tables to) parent)
parent_item name store to (Err fault) = relation_refusal fault

-- the row in the table `to` to which a row belongs
abbrev pub parent_shown : List ℕ → List ℕ → List ℕ → List ℕ → SeenStore → Item
parent_shown name table id to store =
    on_table table (λ t. on_table to (λ u. on_id id (parent_item name store u (parent_told store.schema.tables store.rows t id u))) (table_named to store.schema.tables)) (table_named table store.schema.tables)

abbrev pub children_item : List ℕ → Result (List (List ℕ)) RelationFault → Item
children_item name (Ok ids) = items.Children name ids
children_item name (Err fault) = relation_refusal fault

-- the ids of the rows of the table `to` that belong to a record
abbrev pub children_shown : List ℕ → List ℕ → List ℕ → List ℕ → SeenStore → Item
children_shown name table id to store =
    on_table table (λ t. on_table to (λ u. on_id id (children_item name (children_told store.schema.tables store.rows t id u))) (table_named to store.schema.tables)) (table_named table store.schema.tables)

-- ---- observers

abbrev pub place_in : List ℕ → List (List ℕ) → Option ℕ
place_in observer names = position (λ name. bytes_eq name observer) names

-- 1 a taken name, 3 sixty-four are open
abbrev pub taken_fault : List ℕ → List (List ℕ) → Option ℕ
taken_fault observer names = if is_some (place_in observer names) then Some 1 else (if nat_le 64 (length names) then Some 3 else None)

-- the places of the columns of a shape, if each is declared
abbrev pub shape_in : List ColumnSchema → LineShape → Option Shape
shape_in columns given_shapes.Ids = Some shapes.Ids
shape_in columns (given_shapes.Columns names) = option_map shapes.Columns (each (λ name. column_named name columns) names)

module _ {A : Type 0} (kind : Kind A) where
  -- the refusal of another observer, or what is done without one
  abbrev pub unless_told : List ℕ → A → Option ℕ → Told A → Told A
  unless_told observer app (Some number) done = told app (observer_refusal number observer)
  unless_told observer app None done = done

  -- an observer is opened under a name; 4 a bad one
  abbrev pub opens_observer : List ℕ → A → Told A → Told A
  opens_observer observer app done = if is_id observer then unless_told observer app (taken_fault observer (kind.observers app)) done else told app (observer_refusal 4 observer)

  abbrev pub with_place : List ℕ → A → (ℕ → Told A) → Option ℕ → Told A
  with_place table app does None = told app (table_refusal table)
  with_place table app does (Some t) = does t

  -- what is done with a declared table, or the refusal that there is no such table
  abbrev pub with_table : List ℕ → A → (ℕ → Told A) → Told A
  with_table table app does = with_place table app does (table_named table (kind.store app).schema.tables)

  -- an observer is opened, and shows what is there now
  abbrev pub watches : List ℕ → List ℕ → A → Watch → Told A
  watches name observer app watch =
      told (kind.watching app observer watch) (opening_item (kind.store app).schema.tables name observer (length (kind.store app).entries) (kind.store app).rows watch)

  -- ---- an observer of a query

  abbrev pub observes_as : List ℕ → List ℕ → A → Query → Option Shape → Told A
  observes_as name observer app query None = told app shape_refusal
  observes_as name observer app query (Some shape) = watches name observer app (Answer query shape)

  abbrev pub observes : List ℕ → List ℕ → A → ℕ → LineShape → Result Query QueryFault → Told A
  observes name observer app t shape (Err fault) = told app (query_refusal fault)
  observes name observer app t shape (Ok query) = observes_as name observer app query (shape_in (table_at (kind.store app).schema.tables t).columns shape)

  abbrev pub observe_app : List ℕ → List ℕ → List ℕ → Data → LineShape → A → Told A
  observe_app name observer table json shape app =
      opens_observer observer app (with_table table app (λ t. observes name observer app t shape (query_of (kind.store app).schema.tables table json)))

  -- ---- a watch on a relation

  abbrev pub watches_by : List ℕ → List ℕ → A → Result Relation RelationFault → Told A
  watches_by name observer app (Err fault) = told app (relation_refusal fault)
  watches_by name observer app (Ok relation) = watches name observer app (Owner relation)

  abbrev pub watches_id : List ℕ → List ℕ → A → ℕ → List ℕ → ℕ → Told A
  watches_id name observer app t id u = if is_id id then watches_by name observer app (related (kind.store app).schema.tables (kind.store app).rows t id u) else told app id_refusal

  abbrev pub watch_app : List ℕ → List ℕ → List ℕ → List ℕ → List ℕ → A → Told A
  watch_app name observer table id to app =
      opens_observer observer app (with_table table app (λ t. with_table to app (λ u. watches_id name observer app t id u)))

  -- ---- the end of an observer

  abbrev pub drops : List ℕ → List ℕ → A → Option ℕ → Told A
  drops name observer app None = told app (observer_refusal 2 observer)
  drops name observer app (Some place) = told (kind.dropped app place) (items.Drop name observer)

  abbrev pub drop_app : List ℕ → List ℕ → A → Told A
  drop_app name observer app = if is_id observer then drops name observer app (place_in observer (kind.observers app)) else told app (observer_refusal 4 observer)

-- ---- turns

-- the observer at a place takes turns until it is still, and then stands at the journal's end
abbrev pub turned : App → Observer → Observer
turned app o = named o.name o.watch (length app.entries)

abbrev pub turns_of : List ℕ → App → ℕ → Option Observer → List ℕ → Told App
turns_of name app place None observer = told app (observer_refusal 2 observer)
turns_of name app place (Some o) observer =
    record { app = observed_by app (set app.observers place (turned app o)); items = turn_items app.schema.tables name o.name (history_of app) o.at o.watch }

abbrev pub turns_at : List ℕ → List ℕ → App → Option ℕ → Told App
turns_at name observer app None = told app (observer_refusal 2 observer)
turns_at name observer app (Some place) = turns_of name app place (slice_get app.observers place) observer

abbrev pub turn_app : List ℕ → List ℕ → App → Told App
turn_app name observer app =
    if is_id observer then turns_at name observer app (place_in observer (map (λ (o : Observer). o.name) app.observers)) else told app (observer_refusal 4 observer)

module _ {A : Type 0} (kind : Kind A) where
  -- an app is looked at
  abbrev pub looks : (SeenStore → Item) → A → Calls (Told A)
  looks shows app = Done (told app (shows (kind.store app)))

-- ---- a line of an app

-- A line of the server does nothing here.
unfoldable pub app_step : List App → SeenLine → Calls (Stepped (List App))
app_step apps (lines.Open name schema) = open_step with_history apps name schema
app_step apps (lines.Close name) = Done (close_step with_history apps name)
app_step apps (lines.Enter name writer) = on_app with_history apps name (λ app. Done (enter_app with_history name writer app))
app_step apps (lines.Nest name writer) = on_app with_history apps name (λ app. Done (nest_app with_history name writer app))
app_step apps (lines.Leave name writer) = on_app with_history apps name (λ app. Done (leave_app with_history name writer app))
app_step apps (lines.Write name ops writer) = on_app with_history apps name (write_app with_history name ops writer)
app_step apps (lines.Fetch name table query) = on_app with_history apps name (looks with_history (fetched name table query))
app_step apps (lines.Rows name table) = on_app with_history apps name (looks with_history (rows_shown name table))
app_step apps (lines.Observe name observer table query shape) = on_app with_history apps name (λ app. Done (observe_app with_history name observer table query shape app))
app_step apps (lines.Watch name observer table id to) = on_app with_history apps name (λ app. Done (watch_app with_history name observer table id to app))
app_step apps (lines.Turn name observer) = on_app with_history apps name (λ app. Done (turn_app name observer app))
app_step apps (lines.Drop name observer) = on_app with_history apps name (λ app. Done (drop_app with_history name observer app))
app_step apps (lines.Parent name table id to) = on_app with_history apps name (looks with_history (parent_shown name table id to))
app_step apps (lines.Children name table id to) = on_app with_history apps name (looks with_history (children_shown name table id to))
app_step apps (lines.Backend schema) = Done (ends_with apps [])
app_step apps (lines.Server table) = Done (ends_with apps [])

-- ---- as the code has its apps

abbrev pub kept_told : Told App → Told KeptApp
kept_told t = record { app = app_kept t.app; items = t.items }

abbrev pub kept_apps : Stepped (List App) → Stepped (List KeptApp)
kept_apps s = stepped_as apps_kept s

-- The same of every line but a turn, which needs the opening rows and stands here for nothing.
unfoldable pub plain_app_step : List KeptApp → SeenLine → Calls (Stepped (List KeptApp))
plain_app_step apps (lines.Open name schema) = open_step as_kept apps name schema
plain_app_step apps (lines.Close name) = Done (close_step as_kept apps name)
plain_app_step apps (lines.Enter name writer) = on_app as_kept apps name (λ app. Done (enter_app as_kept name writer app))
plain_app_step apps (lines.Nest name writer) = on_app as_kept apps name (λ app. Done (nest_app as_kept name writer app))
plain_app_step apps (lines.Leave name writer) = on_app as_kept apps name (λ app. Done (leave_app as_kept name writer app))
plain_app_step apps (lines.Write name ops writer) = on_app as_kept apps name (write_app as_kept name ops writer)
plain_app_step apps (lines.Fetch name table query) = on_app as_kept apps name (looks as_kept (fetched name table query))
plain_app_step apps (lines.Rows name table) = on_app as_kept apps name (looks as_kept (rows_shown name table))
plain_app_step apps (lines.Observe name observer table query shape) = on_app as_kept apps name (λ app. Done (observe_app as_kept name observer table query shape app))
plain_app_step apps (lines.Watch name observer table id to) = on_app as_kept apps name (λ app. Done (watch_app as_kept name observer table id to app))
plain_app_step apps (lines.Turn name observer) = Done (ends_with apps [])
plain_app_step apps (lines.Drop name observer) = on_app as_kept apps name (λ app. Done (drop_app as_kept name observer app))
plain_app_step apps (lines.Parent name table id to) = on_app as_kept apps name (looks as_kept (parent_shown name table id to))
plain_app_step apps (lines.Children name table id to) = on_app as_kept apps name (looks as_kept (children_shown name table id to))
plain_app_step apps (lines.Backend schema) = Done (ends_with apps [])
plain_app_step apps (lines.Server table) = Done (ends_with apps [])
