mod LateStores
