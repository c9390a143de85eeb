-- The words of Labels, Steps and Delivery, said of a question: what the inner functions promise each other.
use Rattle.std.specs.Prelude.{Bool, Option, List, ℕ, ◌+◌, length}
use Rattle.network.specs.declared.answer.Answer.{Answer}
use Rattle.network.specs.declared.weight.Weight.{Weight}
use Rattle.network.specs.declared.rows.Row.{Row}
use Rattle.network.specs.Lent.{network_of, columns_of}
use Rattle.network.specs.Network.{Network, edges}
use Rattle.network.specs.Rows.{table}
use Rattle.search.specs.declared.question.Question.{Question}
use Rattle.search.specs.Graph.{Graph}
use Rattle.search.specs.Orders
use Rattle.search.specs.Labels
use Rattle.search.specs.Places
use Rattle.search.specs.Steps
use Rattle.search.specs.Delivery

abbrev pub roads : Question → Network
roads q = network_of q.network

abbrev pub table_of : Question → List Row
table_of q = table (columns_of q.shortcuts)

-- how many rows there are
abbrev pub row_count : Question → ℕ
row_count q = edges (roads q) + length q.shortcuts.tails.now

-- "x is contracted before y", or never, where every node is read as core
abbrev pub down : Question → ℕ → ℕ → Type 0
down q = Labels.Falls q.plain q.network.node_ranks.now

-- the graph that is searched
abbrev pub graph_of : Question → Graph
graph_of q = Labels.asked q.plain (roads q) (table_of q) q.sheet q.from q.to

-- rooms of so many numbers are large enough
abbrev pub Roomy : Question → (wide narrow : ℕ) → Type 0
Roomy q = Orders.Roomy (roads q)

abbrev pub Light : Question → Weight → Type 0
Light q = Steps.Light (roads q) (table_of q)

abbrev pub Hinted : Question → List ℕ → Type 0
Hinted q = Labels.Hinted (roads q) (table_of q) (down q) q.to

abbrev pub Homeward : Question → ℕ → Type 0
Homeward q = Places.Homeward (roads q) (table_of q) (down q) q.to

abbrev pub RowHome : Question → (x r : ℕ) → Bool → Type 0
RowHome q = Steps.RowHome (roads q) (table_of q) (down q) q.to

abbrev pub Worked : Question → ℕ → Weight → (ℕ → ℕ → Type 0) → (wide narrow wide' narrow' : List ℕ) → Type 0
Worked q = Labels.Worked q.plain (roads q) (table_of q) q.sheet q.from q.to

abbrev pub Left : Question → ℕ → (wide narrow wide' narrow' : List ℕ) → Type 0
Left q = Steps.Left q.plain (roads q) (table_of q) q.sheet q.from q.to

abbrev pub Begins : Question → (wide narrow wide' narrow' : List ℕ) → Type 0
Begins q = Steps.Begins q.plain (roads q) (table_of q) q.sheet q.from q.to

abbrev pub Ran : Question → (wide narrow wide' narrow' : List ℕ) → Option ℕ → Type 0
Ran q = Steps.Ran q.plain (roads q) (table_of q) q.sheet q.from q.to

abbrev pub place_before : Question → List ℕ → ℕ → ℕ
place_before q = Labels.place_before (roads q) (table_of q)

abbrev pub rows_to : Question → List ℕ → ℕ → List ℕ
rows_to q = Delivery.rows_to (roads q) (table_of q)

abbrev pub Leads : Question → List ℕ → ℕ → (rs all : List ℕ) → Type 0
Leads q = Delivery.Leads (roads q) (table_of q)

abbrev pub Reach : Question → List ℕ → Option ℕ → Type 0
Reach q = Delivery.Reach (roads q) (table_of q)

abbrev pub Delivered : Question → (wide narrow : List ℕ) → Option ℕ → (journey journey' : List ℕ) → Answer → ℕ → Type 0
Delivered q = Delivery.Delivered (roads q) (table_of q)
