-- What is found in each ring, and what the search hits.
pub mod WhatIsHit
pub mod WhatIsPeeked
